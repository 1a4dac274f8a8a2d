-- Lemmas on the digits of a number, and on what `parse` and `split_once` give of them.
use Rattle.std.proofs.Common.{◌≡◌, ◌≢◌, ℕ, suc, zero, ◌<◌, ◌^◌, List, ◌∷◌, ◌++◌, Result, Ok, Err, Option, Some, IfSome, MatchOption, Bor, decimal, length, get_or, arith, sym, ◌∙◌, ap}
use Rattle.std.specs.Result.{result_ok}
use Rattle.std.specs.Str.Parse.{AllDigits, digits_value, ParsesUnsigned}
use Rattle.std.proofs.lemmas.Str.Parse.{IsNumeralModel, numerals_by_value, tells_digits, not_in_digits, parse_plain}
use Rattle.std.proofs.lemmas.Str.Pattern.{IsSplitOnceResult, split_after}
use Rattle.std.proofs.lemmas.Fmt.{digits_decimal, decimal_nonempty, first_decimal, decimal_digit, decimal-digits_value, parse-decimal}

-- digits and their value, in std's words
pub own : IsNumeralModel (AllDigits 10) (digits_value 10)
own = numerals_by_value (AllDigits 10) tells_digits

-- a number has no sign
pub has_no_plus : (n : ℕ) → n < 2 ^ 64 → get_or (decimal n) 0 0 ≢ 43
has_no_plus n small = not_in_digits own (decimal n) 43 (digits_decimal own n small) (λ digit. omega arith) 0 (decimal_nonempty n small)

-- a number that begins with a zero is 0 itself
pub has_no_leading_zero : (n : ℕ) → n < 2 ^ 64 → get_or (decimal n) 0 0 ≡ 48 → length (decimal n) ≡ 1
has_no_leading_zero zero small e = ap length (decimal_digit 0 (omega arith))
has_no_leading_zero (suc n) small e = absurd (omega (arith, first_decimal (suc n) (omega arith) small))

-- a text with no plus and no leading zero is what its number writes
pub parsed-written : {E : Type 0} (bs : List ℕ) (r : Result ℕ E) → ParsesUnsigned 32 10 bs r → get_or bs 0 0 ≢ 43
    → (get_or bs 0 0 ≡ 48 → length bs ≡ 1) → IfSome (result_ok r) (λ n. bs ≡ decimal n)
parsed-written {E} bs (Ok n) h plus zero_first =
    let w : (AllDigits 10 bs × (0 < length bs) × (digits_value 10 bs < 2 ^ 32)) × (n ≡ digits_value 10 bs) = parse_plain own {E = E} 32 bs (Ok n) h plus in
    sym (decimal-digits_value own bs w.0.0 w.0.1 zero_first (omega arith)) ∙ ap decimal (sym w.1)
parsed-written bs (Err e) h plus zero_first = tt

-- what a number writes is read
pub parsed-read : {E : Type 0} (bs : List ℕ) (r : Result ℕ E) (n : ℕ) → ParsesUnsigned 32 10 bs r → n < 2 ^ 32 → bs ≡ decimal n
    → result_ok r ≡ Some n
parsed-read bs r n h small e = ap result_ok (parse-decimal 32 n bs r small (omega arith) e h)

-- a size is split at its `x`
pub split-size : (w h : ℕ) (text : List ℕ) (r : Option (Bor (List ℕ) × Bor (List ℕ))) → IsSplitOnceResult 120 text r → w < 2 ^ 16
    → text ≡ decimal w ++ 120 ∷ decimal h → MatchOption r ⊥ (λ x. (x.0.now ≡ decimal w) × (x.1.now ≡ decimal h))
split-size w h text r split small e =
    let fits : w < 2 ^ 64 = omega arith in
    split_after 120 text (decimal w) (decimal h) r split (omega arith) e
    (not_in_digits own (decimal w) 120 (digits_decimal own w fits) (λ digit. omega arith))
