-- The law is proved in `proofs/SureLemmas`.
use Rattle.flash_laws.proofs.SureLemmas as laws
use Rattle.flash_laws.proofs.sure.changes_are_possible.Goals as goal

pub returns : goal.returns
returns c = laws.changes_are_possible
