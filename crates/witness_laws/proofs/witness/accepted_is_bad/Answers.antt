-- The law is proved in `proofs/WitnessLemmas`.
use Rattle.witness_laws.proofs.WitnessLemmas as laws
use Rattle.witness_laws.proofs.witness.accepted_is_bad.Goals as goal

pub returns : goal.returns
returns c = laws.accepted_is_bad
