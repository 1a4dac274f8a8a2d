use Rattle.std.proofs.Common.{◌≡◌, length}
use Rattle.style_tokens.specs.CssReading.{after_close}
use Rattle.style_tokens.proofs.css_reading.after_close.Given as goal

abbrev pub invariant-closing : goal.invariant-closing
invariant-closing l = after_close l.rest ≡ after_close l.bytes

abbrev pub decreases-closing : goal.decreases-closing
decreases-closing l = length l.rest
