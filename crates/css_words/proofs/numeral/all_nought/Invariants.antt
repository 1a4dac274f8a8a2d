use Rattle.std.proofs.Common.{◌≡◌, length}
use Rattle.std.specs.List.{list_all}
use Rattle.css_words.specs.Numerals.{is_nought}
use Rattle.css_words.proofs.numeral.all_nought.Given as goal

abbrev pub invariant-digits : goal.invariant-digits
invariant-digits l = list_all is_nought l.rest ≡ list_all is_nought l.digits

abbrev pub decreases-digits : goal.decreases-digits
decreases-digits l = length l.rest
