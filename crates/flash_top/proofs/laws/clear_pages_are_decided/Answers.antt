use Rattle.flash_top.proofs.ClearLemmas.{clear-decision}
use Rattle.flash_top.proofs.laws.clear_pages_are_decided.Goals as goal

pub returns : goal.returns
returns c = clear-decision
