-- The law is proved in `proofs/WitnessLemmas`.
use Rattle.witness_laws.proofs.WitnessLemmas as laws
use Rattle.witness_laws.proofs.witness.parts_fit_the_rectangle.Goals as goal

pub returns : goal.returns
returns c = laws.parts_fit_the_rectangle
