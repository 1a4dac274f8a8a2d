-- The law is proved in `proofs/MarkLemmas`.
use Rattle.flash_laws.proofs.MarkLemmas as laws
use Rattle.flash_laws.proofs.marks.area_twice_breaks.Goals as goal

pub returns : goal.returns
returns c = laws.area_twice_breaks
