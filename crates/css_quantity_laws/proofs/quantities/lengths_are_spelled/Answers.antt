use Rattle.css_quantities.specs.Quantities.{length_of}
use Rattle.css_quantity_laws.specs.SpelledQuantities.{PastLength, SpellsLength}
use Rattle.css_quantity_laws.proofs.QuantityLemmas.{length_reads}
use Rattle.css_word_laws.proofs.Readings.{agrees}
use Rattle.css_quantity_laws.proofs.quantities.lengths_are_spelled.Goals as goal

pub returns : goal.returns
returns c = λ signed. agrees (length_of signed) (SpellsLength signed) (PastLength signed) (length_reads signed)
