-- The size of a number.
use Rattle.std.proofs.Common.{ℕ, suc, zero, ◌≡◌, ◌∙◌, ◌≤◌, ◌<◌, ◌+◌, ◌-◌, ◌*◌, ◌^◌, ◌==◌, ◌&&◌, true, false, List, [], ◌∷◌, ◌++◌, length, Some, None, refl, ap, sym, inl, inr, arith, nat_le, nat_lt, length-append}
use Rattle.std.proofs.Math.Nat.{pow-suc, le_of_mul-le-mul_right}
use Rattle.std.proofs.lemmas.Nat.{pow-add}
use Rattle.std.proofs.lemmas.Bool.{cases_Bool, and_parts, and_from, leb-true, le-leb, eqb-true, eq-eqb}
use Rattle.std.proofs.lemmas.Bool.Decides.{nat_tests}
use Rattle.std.proofs.lemmas.List.Folds.{list_all-append}
use Rattle.std.specs.Char.{digit_value}
use Rattle.std.specs.List.{list_all}
use Rattle.std.specs.Str.Parse.{digits_value, digits_value_after}
use Rattle.text_tokens.specs.Classes.{is_digit}
use Rattle.css_words.specs.Numerals.{Numeral, amount, is_nought, is_zero}
use Rattle.css_word_laws.specs.SpelledNumbers.{tens, IsSize}

digit_is : (d : ℕ) → is_digit d ≡ true → digit_value d ≡ d - 48
digit_is d is =
    let both = and_parts (nat_le 48 d) (nat_le d 57) is in
    let low : nat_lt d 48 ≡ false = grind (arith, nat_tests) in
    let high : nat_lt d 58 ≡ true = grind (arith, nat_tests) in
    rw (low, high) refl

after_is : (n : ℕ) (ds : List ℕ) → list_all is_digit ds ≡ true → digits_value_after 10 n ds ≡ n * 10 ^ length ds + tens ds
after_is n [] all = omega arith
after_is n (d ∷ ds) all =
    let both = and_parts (is_digit d) (list_all is_digit ds) all in
    after_is (n * 10 + digit_value d) ds both.1 ∙ rw (digit_is d both.0, pow-suc) (omega arith)

pub value_is : (ds : List ℕ) → list_all is_digit ds ≡ true → digits_value 10 ds ≡ tens ds
value_is ds all = after_is 0 ds all ∙ omega arith

tens-append : (front behind : List ℕ) → tens (front ++ behind) ≡ tens front * 10 ^ length behind + tens behind
tens-append [] behind = omega arith
tens-append (d ∷ front) behind =
    let longer : length (front ++ behind) ≡ length front + length behind = length-append front behind in
    rw (tens-append front behind, longer, pow-add) (omega arith)

-- the parts of a size, as they are read
scaled_parts : (a b p q l : ℕ) → p ≡ q * l → (a * p + b * q) * l ≡ (a * l + b) * p
scaled_parts a b p q l e = rw e (omega arith)

read_value : (places : ℕ) (whole fraction : List ℕ) → list_all is_digit whole ≡ true → list_all is_digit fraction ≡ true → length fraction ≤ places
    → (digits_value 10 whole * 10 ^ places + digits_value 10 fraction * 10 ^ (places - length fraction)) * 10 ^ length fraction
    ≡ tens (whole ++ fraction) * 10 ^ places
read_value places whole fraction w f few =
    let split : places ≡ (places - length fraction) + length fraction = omega arith in
    let power : 10 ^ places ≡ 10 ^ (places - length fraction) * 10 ^ length fraction = ap (λ k. 10 ^ k) split ∙ pow-add 10 (places - length fraction) (length fraction) in
    rw (value_is whole w, value_is fraction f, tens-append whole fraction)
    (scaled_parts (tens whole) (tens fraction) (10 ^ places) (10 ^ (places - length fraction)) (10 ^ length fraction) power)

ten_some : (k : ℕ) → 0 < 10 ^ k
ten_some zero = omega arith
ten_some (suc k) = let some = ten_some k in rw (pow-suc) (omega arith)

-- the test of an amount
fits_from : (whole fraction places : ℕ) → whole ≤ 9 → fraction ≤ places → (nat_le whole 9 && nat_le fraction places) ≡ true
fits_from whole fraction places w f = and_from (nat_le whole 9) (nat_le fraction places) (le-leb whole 9 w) (le-leb fraction places f)

pub size_to : (places : ℕ) (n : Numeral) (size : ℕ) → list_all is_digit n.whole ≡ true → list_all is_digit n.fraction ≡ true → amount places n ≡ Some size
    → IsSize places n.whole n.fraction size
unfolding amount
size_to places n size w f e =
    elim (cases_Bool (nat_le (length n.whole) 9 && nat_le (length n.fraction) places)) [
      | inl fits ↦
          let both = and_parts (nat_le (length n.whole) 9) (nat_le (length n.fraction) places) fits in
          let few = leb-true (length n.whole) 9 both.0 in
          let decimals = leb-true (length n.fraction) places both.1 in
          let g : Some (digits_value 10 n.whole * 10 ^ places + digits_value 10 n.fraction * 10 ^ (places - length n.fraction)) ≡ Some size = rw fits at e in
          let is : digits_value 10 n.whole * 10 ^ places + digits_value 10 n.fraction * 10 ^ (places - length n.fraction) ≡ size = cc in
          record { few = few; decimals = decimals; value = ap (λ k. k * 10 ^ length n.fraction) (sym is) ∙ read_value places n.whole n.fraction w f decimals }
      | inr not_fits ↦ absurd (let g : None ≡ Some size = rw not_fits at e in cc)
    ]

same_size : (a b k : ℕ) → 0 < k → a * k ≡ b * k → a ≡ b
same_size a b k some e =
    let low = le_of_mul-le-mul_right {m = a} {n = b} {k = k} (omega arith) some in
    let high = le_of_mul-le-mul_right {m = b} {n = a} {k = k} (omega arith) some in
    omega arith

pub size_from : (places : ℕ) (n : Numeral) (size : ℕ) → list_all is_digit n.whole ≡ true → list_all is_digit n.fraction ≡ true → IsSize places n.whole n.fraction size
    → amount places n ≡ Some size
unfolding amount
size_from places n size w f is =
    let value = is.value in
    let same = same_size (digits_value 10 n.whole * 10 ^ places + digits_value 10 n.fraction * 10 ^ (places - length n.fraction)) size (10 ^ length n.fraction) (ten_some (length n.fraction))
    (read_value places n.whole n.fraction w f is.decimals ∙ sym value) in
    rw (fits_from (length n.whole) (length n.fraction) places is.few is.decimals) (ap (λ t. Some t) same)

nought_to : (ds : List ℕ) → list_all is_nought ds ≡ true → tens ds ≡ 0
nought_to [] all = refl
nought_to (d ∷ ds) all =
    let both = and_parts (d == 48) (list_all is_nought ds) all in
    let is : d - 48 ≡ 0 = let e = eqb-true d 48 both.0 in omega arith in
    rw (is, nought_to ds both.1) (omega arith)

nought_from : (ds : List ℕ) → list_all is_digit ds ≡ true → tens ds ≡ 0 → list_all is_nought ds ≡ true
nought_from [] all none = refl
nought_from (d ∷ ds) all none =
    let both = and_parts (is_digit d) (list_all is_digit ds) all in
    let range = and_parts (nat_le 48 d) (nat_le d 57) both.0 in
    let rest : tens ds ≡ 0 = omega arith in
    let first : (d - 48) * 10 ^ length ds ≡ 0 * 10 ^ length ds = omega arith in
    let is : d - 48 ≡ 0 = same_size (d - 48) 0 (10 ^ length ds) (ten_some (length ds)) first in
    let low = leb-true 48 d range.0 in
    and_from (d == 48) (list_all is_nought ds) (eq-eqb d 48 (omega arith)) (nought_from ds both.1 rest)

pub zero_to : (n : Numeral) → is_zero n ≡ true → (length n.whole ≤ 9) × (tens (n.whole ++ n.fraction) ≡ 0)
unfolding is_zero
zero_to n e =
    let both = and_parts (nat_le (length n.whole) 9) (list_all is_nought n.whole && list_all is_nought n.fraction) e in
    (leb-true (length n.whole) 9 both.0, nought_to (n.whole ++ n.fraction) (list_all-append is_nought n.whole n.fraction ∙ both.1))

pub zero_from : (n : Numeral) → list_all is_digit n.whole ≡ true → list_all is_digit n.fraction ≡ true → length n.whole ≤ 9 → tens (n.whole ++ n.fraction) ≡ 0
    → is_zero n ≡ true
unfolding is_zero
zero_from n w f few none =
    let all : list_all is_digit (n.whole ++ n.fraction) ≡ true = list_all-append is_digit n.whole n.fraction ∙ and_from (list_all is_digit n.whole) (list_all is_digit n.fraction) w f in
    and_from (nat_le (length n.whole) 9) (list_all is_nought n.whole && list_all is_nought n.fraction) (le-leb (length n.whole) 9 few)
    (sym (list_all-append is_nought n.whole n.fraction) ∙ nought_from (n.whole ++ n.fraction) all none)
