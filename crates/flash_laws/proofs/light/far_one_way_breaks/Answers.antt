-- The law is proved in `proofs/WrongLemmas`.
use Rattle.flash_laws.proofs.WrongLemmas as laws
use Rattle.flash_laws.proofs.light.far_one_way_breaks.Goals as goal

pub returns : goal.returns
returns c = laws.far_one_way_breaks
