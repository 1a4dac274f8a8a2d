-- The law is proved in `proofs/LightLemmas`.
use Rattle.flash_laws.proofs.LightLemmas as laws
use Rattle.flash_laws.proofs.light.black_is_not_red.Goals as goal

pub returns : goal.returns
returns c = laws.black_is_not_red
