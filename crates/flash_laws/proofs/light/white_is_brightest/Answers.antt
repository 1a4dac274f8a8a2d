-- The law is proved in `proofs/LightLemmas`.
use Rattle.flash_laws.proofs.LightLemmas as laws
use Rattle.flash_laws.proofs.light.white_is_brightest.Goals as goal

pub returns : goal.returns
returns c = laws.white_is_brightest
