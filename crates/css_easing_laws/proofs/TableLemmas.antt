-- The words of each table differ.
use Rattle.std.proofs.Common.{◌≡◌, true, refl}
use Rattle.css_words.specs.Keywords.{is_keyword}
use Rattle.css_easings.specs.EasingWords.{easing_words, jump_words}
use Rattle.css_word_laws.proofs.WordLemmas.{are_distinct}

pub easings_differ : are_distinct easing_words ≡ true
unfolding easing_words is_keyword
easings_differ = refl

pub jumps_differ : are_distinct jump_words ≡ true
unfolding jump_words is_keyword
jumps_differ = refl
