-- The law is proved in `proofs/MarkLemmas`.
use Rattle.flash_laws.proofs.MarkLemmas as laws
use Rattle.flash_laws.proofs.marks.marks_count.Goals as goal

pub returns : goal.returns
returns c = laws.marks_count
