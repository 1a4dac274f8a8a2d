-- By the length of the bytes, and by their first fault.
use Rattle.flash_top.proofs.RefusalLemmas.{loaded_or_refused}
use Rattle.flash_top.proofs.laws.every_page_is_loaded_or_refused.Goals as goal

pub returns : goal.returns
returns c = loaded_or_refused
