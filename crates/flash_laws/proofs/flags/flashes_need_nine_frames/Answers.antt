-- The law is proved in `proofs/FlashLemmas`.
use Rattle.flash_laws.proofs.FlashLemmas as laws
use Rattle.flash_laws.proofs.flags.flashes_need_nine_frames.Goals as goal

pub returns : goal.returns
returns c = laws.flashes_need_nine_frames
