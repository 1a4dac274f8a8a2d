-- The law is proved in `proofs/LightLemmas`.
use Rattle.flash_laws.proofs.LightLemmas as laws
use Rattle.flash_laws.proofs.light.rise_and_fall_exclude.Goals as goal

pub returns : goal.returns
returns c = laws.rise_and_fall_exclude
