use Rattle.css_quantity_laws.proofs.QuantityLemmas.{nothing_from, nothing_to}
use Rattle.css_quantity_laws.proofs.quantities.nothing_is_spelled.Goals as goal

pub returns : goal.returns
returns c = λ words. (nothing_to words, nothing_from words)
