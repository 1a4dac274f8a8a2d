use Rattle.std.proofs.Common.{◌≡◌, ◌+◌, false, length}
use Rattle.css_values.specs.ShorthandGrammar.{word_length}
use Rattle.css_values.proofs.shorthand.word_length.Given as goal

abbrev pub invariant-counting : goal.invariant-counting
invariant-counting l = (l.count + word_length l.inside l.rest ≡ word_length false l.tokens) × (l.count + length l.rest ≡ length l.tokens)

abbrev pub decreases-counting : goal.decreases-counting
decreases-counting l = length l.rest
