-- The law is proved in `proofs/WrongLemmas`.
use Rattle.witness_laws.proofs.WrongLemmas as laws
use Rattle.witness_laws.proofs.witness.one_condition_breaks.Goals as goal

pub returns : goal.returns
returns c = laws.one_condition_breaks
