-- The law is proved in `proofs/FlashLemmas`.
use Rattle.flash_laws.proofs.FlashLemmas as laws
use Rattle.flash_laws.proofs.flags.flashes_by_halves_break.Goals as goal

pub returns : goal.returns
returns c = laws.flashes_by_halves_break
