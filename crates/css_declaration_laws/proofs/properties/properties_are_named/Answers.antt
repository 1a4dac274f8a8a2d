use Rattle.css_values.specs.PropertyNames.{property_names}
use Rattle.css_declaration_laws.proofs.TableLemmas.{properties_differ}
use Rattle.css_word_laws.proofs.WordLemmas.{entry_from, entry_to}
use Rattle.css_declaration_laws.proofs.properties.properties_are_named.Goals as goal

pub returns : goal.returns
returns c = λ bytes property. (entry_to property_names bytes property, entry_from property_names bytes property properties_differ)
