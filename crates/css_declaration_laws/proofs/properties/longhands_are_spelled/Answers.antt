use Rattle.css_values.specs.ValueGrammar.{longhand_of}
use Rattle.css_declaration_laws.specs.SpelledLonghands.{PastLonghand, SpellsLonghand}
use Rattle.css_declaration_laws.proofs.LonghandLemmas.{longhand_reads}
use Rattle.css_word_laws.proofs.Readings.{agrees}
use Rattle.css_declaration_laws.proofs.properties.longhands_are_spelled.Goals as goal

pub returns : goal.returns
returns c = λ property. agrees (longhand_of property) (SpellsLonghand property) (PastLonghand property) (longhand_reads property)
