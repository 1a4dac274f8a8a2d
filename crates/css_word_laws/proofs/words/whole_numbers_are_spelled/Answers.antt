use Rattle.css_word_laws.proofs.WordLemmas.{whole_from, whole_to}
use Rattle.css_word_laws.proofs.words.whole_numbers_are_spelled.Goals as goal

pub returns : goal.returns
returns c = λ bytes n. (whole_to bytes n, whole_from bytes n)
