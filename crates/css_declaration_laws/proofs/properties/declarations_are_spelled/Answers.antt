use Rattle.css_values.specs.ValueGrammar.{declaration_of}
use Rattle.css_declaration_laws.specs.Spelling.{Spells, SpellsPast}
use Rattle.css_declaration_laws.proofs.DeclarationLemmas.{declaration_reads}
use Rattle.css_word_laws.proofs.Readings.{agrees}
use Rattle.css_declaration_laws.proofs.properties.declarations_are_spelled.Goals as goal

pub returns : goal.returns
returns c = λ property. agrees (declaration_of property) (Spells property) (SpellsPast property) (declaration_reads property)
