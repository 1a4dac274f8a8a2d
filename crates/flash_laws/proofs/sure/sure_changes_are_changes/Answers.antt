-- The law is proved in `proofs/SureLemmas`.
use Rattle.flash_laws.proofs.SureLemmas as laws
use Rattle.flash_laws.proofs.sure.sure_changes_are_changes.Goals as goal

pub returns : goal.returns
returns c = laws.sure_changes_are_changes
