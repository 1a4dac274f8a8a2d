-- The law is proved in `proofs/WitnessLemmas`.
use Rattle.witness_laws.proofs.WitnessLemmas as laws
use Rattle.witness_laws.proofs.witness.witnesses_flash.Goals as goal

pub returns : goal.returns
returns c = laws.witnesses_flash
