use Rattle.css_items.specs.Names.{name_of}
use Rattle.css_value_laws.specs.SpelledNames.{SpellsName}
use Rattle.css_word_laws.specs.ValueLaws.{NonePast}
use Rattle.css_word_laws.proofs.Readings.{agrees}
use Rattle.css_value_laws.proofs.NameLemmas.{name_reads}
use Rattle.css_value_laws.proofs.keywords.names_are_spelled.Goals as goal

pub returns : goal.returns
returns c = agrees name_of SpellsName NonePast name_reads
