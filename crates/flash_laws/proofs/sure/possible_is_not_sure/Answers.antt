-- The law is proved in `proofs/WrongLemmas`.
use Rattle.flash_laws.proofs.WrongLemmas as laws
use Rattle.flash_laws.proofs.sure.possible_is_not_sure.Goals as goal

pub returns : goal.returns
returns c = laws.possible_is_not_sure
