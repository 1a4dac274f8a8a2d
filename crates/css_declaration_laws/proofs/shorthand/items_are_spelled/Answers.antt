use Rattle.css_values.specs.ShorthandGrammar.{item_of}
use Rattle.css_declaration_laws.specs.SpelledShorthand.{PastItem, SpellsItem}
use Rattle.css_declaration_laws.proofs.ItemLemmas.{item_reads}
use Rattle.css_word_laws.proofs.Readings.{agrees}
use Rattle.css_declaration_laws.proofs.shorthand.items_are_spelled.Goals as goal

pub returns : goal.returns
returns c = agrees item_of SpellsItem PastItem item_reads
