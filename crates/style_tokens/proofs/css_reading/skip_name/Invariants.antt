use Rattle.std.proofs.Common.{◌≡◌, length}
use Rattle.text_tokens.specs.Classes.{is_name_byte}
use Rattle.style_tokens.specs.CssReading.{skip}
use Rattle.style_tokens.proofs.css_reading.skip_name.Given as goal

abbrev pub invariant-name : goal.invariant-name
invariant-name l = skip is_name_byte l.rest ≡ skip is_name_byte l.bytes

abbrev pub decreases-name : goal.decreases-name
decreases-name l = length l.rest
