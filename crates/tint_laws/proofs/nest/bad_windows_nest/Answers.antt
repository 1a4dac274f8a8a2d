-- The law is proved in `proofs/NestLemmas`.
use Rattle.tint_laws.proofs.NestLemmas as laws
use Rattle.tint_laws.proofs.nest.bad_windows_nest.Goals as goal

pub returns : goal.returns
returns c = laws.bad_windows_nest
