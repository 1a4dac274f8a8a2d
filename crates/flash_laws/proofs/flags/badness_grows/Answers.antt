-- The law is proved in `proofs/FlagLemmas`.
use Rattle.flash_laws.proofs.FlagLemmas as laws
use Rattle.flash_laws.proofs.flags.badness_grows.Goals as goal

pub returns : goal.returns
returns c = laws.badness_grows
