use Rattle.std.proofs.Common.{◌≡◌, ◌≤◌, length}
use Rattle.text_tokens.specs.Classes.{is_digit}
use Rattle.style_tokens.specs.CssReading.{skip}
use Rattle.css_words.proofs.digits.skip_digits.Given as goal

abbrev pub invariant-digits : goal.invariant-digits
invariant-digits l = (skip is_digit l.rest ≡ skip is_digit l.bytes) × (length l.rest ≤ length l.bytes)

abbrev pub decreases-digits : goal.decreases-digits
decreases-digits l = length l.rest
