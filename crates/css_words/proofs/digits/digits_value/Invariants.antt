use Rattle.std.proofs.Common.{◌≡◌, ◌≤◌, ◌+◌, ◌*◌, ◌^◌, ◌-◌, length}
use Rattle.std.specs.Str.Parse.{digits_value, digits_value_after}
use Rattle.css_words.proofs.digits.digits_value.Given as goal

abbrev pub invariant-digits : goal.invariant-digits
invariant-digits l = record {
  value : digits_value_after 10 l.value l.rest ≡ digits_value 10 l.digits;
  small : l.value + 4 ≤ 4 * 10 ^ (length l.digits - length l.rest);
  shorter : length l.rest ≤ length l.digits;
}

abbrev pub decreases-digits : goal.decreases-digits
decreases-digits l = length l.rest
