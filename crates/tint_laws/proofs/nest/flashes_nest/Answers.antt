-- The law is proved in `proofs/NestLemmas`.
use Rattle.tint_laws.proofs.NestLemmas as laws
use Rattle.tint_laws.proofs.nest.flashes_nest.Goals as goal

pub returns : goal.returns
returns c = laws.flashes_nest
