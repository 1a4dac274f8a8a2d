use Rattle.flash_top.proofs.ToldLemmas.{told_accepted}
use Rattle.flash_top.proofs.laws.told_witness_is_accepted.Goals as goal

pub returns : goal.returns
returns c = told_accepted
