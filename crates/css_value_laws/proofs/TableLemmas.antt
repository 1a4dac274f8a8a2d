-- The words of each table differ.
use Rattle.std.proofs.Common.{◌≡◌, true, refl}
use Rattle.css_words.specs.Keywords.{is_keyword}
use Rattle.css_items.specs.ItemWords.{direction_words, fill_words, play_words, visibility_words}
use Rattle.css_word_laws.proofs.WordLemmas.{are_distinct}

pub directions_differ : are_distinct direction_words ≡ true
unfolding direction_words is_keyword
directions_differ = refl

pub fills_differ : are_distinct fill_words ≡ true
unfolding fill_words is_keyword
fills_differ = refl

pub plays_differ : are_distinct play_words ≡ true
unfolding play_words is_keyword
plays_differ = refl

pub visibilities_differ : are_distinct visibility_words ≡ true
unfolding visibility_words is_keyword
visibilities_differ = refl
