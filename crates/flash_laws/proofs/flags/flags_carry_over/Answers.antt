-- The law is proved in `proofs/FlagLemmas`.
use Rattle.flash_laws.proofs.FlagLemmas as laws
use Rattle.flash_laws.proofs.flags.flags_carry_over.Goals as goal

pub returns : goal.returns
returns c = laws.flags_carry_over
