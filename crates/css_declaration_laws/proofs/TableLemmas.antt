-- The words of each table differ.
use Rattle.std.proofs.Common.{◌≡◌, true, refl}
use Rattle.css_words.specs.Keywords.{is_keyword}
use Rattle.css_values.specs.PropertyNames.{property_names}
use Rattle.css_word_laws.proofs.WordLemmas.{are_distinct}

pub properties_differ : are_distinct property_names ≡ true
unfolding property_names is_keyword
properties_differ = refl
