-- The law is proved in `proofs/ExactPageLemmas`.
use Rattle.enclosure_laws.proofs.ExactPageLemmas.{exact_pages-decided}
use Rattle.enclosure_laws.proofs.exact.exact_pages_are_decided.Goals as goal

pub returns : goal.returns
returns c = exact_pages-decided
