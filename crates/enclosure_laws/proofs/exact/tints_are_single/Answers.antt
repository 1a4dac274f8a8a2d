-- The law is proved in `proofs/ExactPageLemmas`.
use Rattle.enclosure_laws.proofs.ExactPageLemmas.{tints-single}
use Rattle.enclosure_laws.proofs.exact.tints_are_single.Goals as goal

pub returns : goal.returns
returns c = tints-single
