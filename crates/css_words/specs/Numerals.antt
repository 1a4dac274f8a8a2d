-- A number of style text in its parts, and its value.
use Rattle.std.specs.Prelude.{ℕ, ℤ, pos, neg_ℤ, Bool, true, false, ◌==◌, ◌&&◌, ◌||◌, not, ◌+◌, ◌-◌, ◌*◌, ◌^◌, List, [], ◌∷◌, length, Option, Some, None, nat_le, min, if◌then◌else◌, option_and_then}
use Rattle.std.specs.List.{list_all}
use Rattle.std.specs.Str.Parse.{digits_value}
use Rattle.text_tokens.specs.Classes.{is_digit}
use Rattle.style_tokens.specs.CssReading.{skip, after_fraction}
use Rattle.css_words.specs.Words.{Word, front_of, lone, when_number}

-- the digits at the front
abbrev pub digits : List ℕ → List ℕ
digits [] = []
digits (b ∷ rest) = if is_digit b then b ∷ digits rest else []

-- a number: whether it has a sign, whether that is `-`, its digits before and behind the point, and its unit
pub record Numeral : Type 0 where
  pub signed : Bool
  pub negative : Bool
  pub whole : List ℕ
  pub fraction : List ℕ
  pub unit : List ℕ

-- the digits behind a point
unfoldable pub fraction_of : List ℕ → List ℕ
fraction_of [] = []
fraction_of (b ∷ rest) = if b == 46 then digits rest else []

-- the number behind a sign
unfoldable pub unsigned_of : Bool → Bool → List ℕ → Numeral
unsigned_of signed negative bytes = record {
  signed = signed;
  negative = negative;
  whole = digits bytes;
  fraction = fraction_of (skip is_digit bytes);
  unit = after_fraction (skip is_digit bytes);
}

unfoldable pub numeral : List ℕ → Numeral
numeral [] = unsigned_of false false []
numeral (b ∷ rest) =
    if b == 43 then unsigned_of true false rest else
    (if b == 45 then unsigned_of true true rest else unsigned_of false false (b ∷ rest))

-- a number has a digit
unfoldable pub number_of : List ℕ → Option Numeral
number_of bytes =
    if length (numeral bytes).whole == 0 && length (numeral bytes).fraction == 0 then None else Some (numeral bytes)

-- how many parts of ten to the places a number has, without its sign; none, where it has more than nine digits before the
-- point or more than so many behind it
unfoldable pub amount : ℕ → Numeral → Option ℕ
amount places n =
    if nat_le (length n.whole) 9 && nat_le (length n.fraction) places
    then Some (digits_value 10 n.whole * 10 ^ places + digits_value 10 n.fraction * 10 ^ (places - length n.fraction))
    else None

abbrev pub is_nought : ℕ → Bool
is_nought digit = digit == 48

-- a number of value 0
unfoldable pub is_zero : Numeral → Bool
is_zero n = nat_le (length n.whole) 9 && (list_all is_nought n.whole && list_all is_nought n.fraction)

-- a number at the front, and the words behind it
unfoldable pub number_at : List Word → Option (Numeral × List Word)
number_at words = option_and_then (λ f. option_and_then (λ n. Some (n, f.1)) (number_of f.0)) (front_of when_number words)

unfoldable pub lone_number : List Word → Option Numeral
lone_number words = option_and_then number_of (lone when_number words)

-- a number without sign, unit and point
unfoldable pub whole_of : Numeral → Option ℕ
whole_of n = if n.signed || (not (length n.unit == 0)) then None else amount 0 n

-- a whole number without sign, unit and point at the front
unfoldable pub whole_at : List Word → Option (ℕ × List Word)
whole_at words = option_and_then (λ f. option_and_then (λ n. Some (n, f.1)) (whole_of f.0)) (number_at words)

-- the thousandths of a number without unit and with three decimals at most, held to 0 and 1
unfoldable pub share_of : Numeral → Option ℕ
share_of n =
    if length n.unit == 0 then option_and_then (λ size. Some (if n.negative then 0 else min size 1000)) (amount 3 n) else None

-- such a number at the front
unfoldable pub share_at : List Word → Option (ℕ × List Word)
share_at words = option_and_then (λ f. option_and_then (λ n. Some (n, f.1)) (share_of f.0)) (number_at words)

-- a signed number of a size
abbrev pub signed_int : Bool → ℕ → ℤ
signed_int negative n = if negative then neg_ℤ (pos n) else pos n
