-- The words of each table differ.
use Rattle.std.proofs.Common.{◌≡◌, true, refl}
use Rattle.css_words.specs.Keywords.{is_keyword}
use Rattle.css_colours.specs.ColourNames.{colour_names}
use Rattle.css_word_laws.proofs.WordLemmas.{are_distinct}

pub colours_differ : are_distinct colour_names ≡ true
unfolding colour_names is_keyword
colours_differ = refl
