use Rattle.std.proofs.Common.{◌≡◌, false, length}
use Rattle.css_values.specs.ShorthandGrammar.{free, groups, take_all}
use Rattle.css_values.specs.ShorthandViews.{held}
use Rattle.css_words.specs.Words.{words}
use Rattle.css_values.proofs.shorthand.take_all.Given as goal

abbrev pub invariant-words : goal.invariant-words
invariant-words l = take_all (held l.slots) (groups false (words l.text l.rest)) ≡ take_all free (groups false (words l.text l.tokens))

abbrev pub decreases-words : goal.decreases-words
decreases-words l = length l.rest
