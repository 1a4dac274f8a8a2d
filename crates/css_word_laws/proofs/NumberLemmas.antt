-- A number is split into its parts in one way.
use Rattle.std.proofs.Common.{ℕ, ◌≡◌, ◌∙◌, ◌<◌, ◌+◌, ◌==◌, ◌&&◌, not, Bool, true, false, cond, List, [], ◌∷◌, ◌++◌, length, Some, None, refl, ap, subst, inl, inr, arith}
use Rattle.std.proofs.lemmas.Bool.{cases_Bool, and_parts}
use Rattle.std.proofs.lemmas.Bool.Decides.{nat_tests, eqb_tells}
use Rattle.std.specs.List.{list_all}
use Rattle.text_tokens.specs.Classes.{is_digit}
use Rattle.style_tokens.specs.CssReading.{skip, after_fraction, run_at}
use Rattle.css_words.specs.Numerals.{Numeral, digits, fraction_of, unsigned_of, numeral, number_of}
use Rattle.css_word_laws.specs.SpelledNumbers.{Sign, sign_bytes, pointed, IsNumber}
use Rattle.css_word_laws.specs.SpelledNumbers.Sign.{bare, plus, minus}

digits_split : (bytes : List ℕ) → bytes ≡ digits bytes ++ skip is_digit bytes
digits_split [] = refl
digits_split (b ∷ rest) = elim (cases_Bool (is_digit b)) [ inl is ↦ rw is (ap (λ t. b ∷ t) (digits_split rest)) | inr not_is ↦ rw not_is refl ]

digits_pass : (bytes : List ℕ) → list_all is_digit (digits bytes) ≡ true
digits_pass [] = refl
digits_pass (b ∷ rest) = elim (cases_Bool (is_digit b)) [ inl is ↦ rw (is, is) (digits_pass rest) | inr not_is ↦ rw not_is refl ]

fraction_split : (bytes : List ℕ) → bytes ≡ pointed (fraction_of bytes) ++ after_fraction bytes
unfolding fraction_of after_fraction run_at
fraction_split [] = refl
fraction_split (b ∷ []) = elim (cases_Bool (b == 46)) [ inl is ↦ rw is refl | inr other ↦ rw other refl ]
fraction_split (b ∷ (d ∷ more)) =
    elim (eqb_tells b 46) [
      | inl is ↦ elim (cases_Bool (is_digit d)) [
        | inl digit ↦ rw (is.0, digit, is.1) (ap (λ t. 46 ∷ d ∷ t) (digits_split more))
        | inr none ↦ rw (is.0, none) refl
      ]
      | inr other ↦ rw other.0 refl
    ]

fraction_pass : (bytes : List ℕ) → list_all is_digit (fraction_of bytes) ≡ true
unfolding fraction_of
fraction_pass [] = refl
fraction_pass (b ∷ rest) = elim (cases_Bool (b == 46)) [ inl is ↦ rw is (digits_pass rest) | inr other ↦ rw other refl ]

-- no digit stands first
abbrev pub no_digit : List ℕ → Bool
no_digit [] = true
no_digit (b ∷ rest) = not (is_digit b)

-- neither a digit nor a point stands first
abbrev pub is_clear : List ℕ → Bool
is_clear [] = true
is_clear (b ∷ rest) = not (is_digit b) && not (b == 46)

run_digits : (run rest : List ℕ) → list_all is_digit run ≡ true → no_digit rest ≡ true → digits (run ++ rest) ≡ run
run_digits [] [] all none = refl
run_digits [] (b ∷ rest) all none = let is : is_digit b ≡ false = grind arith in rw is refl
run_digits (d ∷ run) rest all none = let both = and_parts (is_digit d) (list_all is_digit run) all in rw both.0 (ap (λ t. d ∷ t) (run_digits run rest both.1 none))

run_skip : (run rest : List ℕ) → list_all is_digit run ≡ true → no_digit rest ≡ true → skip is_digit (run ++ rest) ≡ rest
run_skip [] [] all none = refl
run_skip [] (b ∷ rest) all none = let is : is_digit b ≡ false = grind arith in rw is refl
run_skip (d ∷ run) rest all none = let both = and_parts (is_digit d) (list_all is_digit run) all in rw both.0 (run_skip run rest both.1 none)

clear_no_digit : (unit : List ℕ) → is_clear unit ≡ true → no_digit unit ≡ true
clear_no_digit [] clear = refl
clear_no_digit (b ∷ rest) clear = (and_parts (not (is_digit b)) (not (b == 46)) clear).0

behind_whole : (fraction unit : List ℕ) → is_clear unit ≡ true → no_digit (pointed fraction ++ unit) ≡ true
behind_whole [] unit clear = clear_no_digit unit clear
behind_whole (d ∷ more) unit clear = refl

fraction_is : (fraction unit : List ℕ) → list_all is_digit fraction ≡ true → is_clear unit ≡ true → fraction_of (pointed fraction ++ unit) ≡ fraction
unfolding fraction_of
fraction_is [] [] all clear = refl
fraction_is [] (b ∷ rest) all clear = let both = and_parts (not (is_digit b)) (not (b == 46)) clear in let is : (b == 46) ≡ false = grind arith in rw is refl
fraction_is (d ∷ more) unit all clear = run_digits (d ∷ more) unit all (clear_no_digit unit clear)

unit_is : (fraction unit : List ℕ) → list_all is_digit fraction ≡ true → is_clear unit ≡ true → after_fraction (pointed fraction ++ unit) ≡ unit
unfolding after_fraction run_at
unit_is [] [] all clear = refl
unit_is [] (b ∷ rest) all clear = let both = and_parts (not (is_digit b)) (not (b == 46)) clear in let is : (b == 46) ≡ false = grind arith in rw is refl
unit_is (d ∷ more) unit all clear =
    let both = and_parts (is_digit d) (list_all is_digit more) all in rw both.0 (run_skip more unit both.1 (clear_no_digit unit clear))

-- what is kept of a sign
abbrev pub has_sign : Sign → Bool
has_sign bare = false
has_sign plus = true
has_sign minus = true

abbrev pub is_minus : Sign → Bool
is_minus bare = false
is_minus plus = false
is_minus minus = true

abbrev pub made : Sign → List ℕ → List ℕ → List ℕ → Numeral
made sign whole fraction unit = record { signed = has_sign sign; negative = is_minus sign; whole = whole; fraction = fraction; unit = unit }

unsigned_is : (sign : Sign) (whole fraction unit : List ℕ) → list_all is_digit whole ≡ true → list_all is_digit fraction ≡ true → is_clear unit ≡ true
    → unsigned_of (has_sign sign) (is_minus sign) (whole ++ (pointed fraction ++ unit)) ≡ made sign whole fraction unit
unfolding unsigned_of
unsigned_is sign whole fraction unit w f clear =
    let front = run_digits whole (pointed fraction ++ unit) w (behind_whole fraction unit clear) in
    let back = run_skip whole (pointed fraction ++ unit) w (behind_whole fraction unit clear) in
    rw (front, back, fraction_is fraction unit f clear, unit_is fraction unit f clear) refl

numeral_is : (sign : Sign) (whole fraction unit : List ℕ) → list_all is_digit whole ≡ true → list_all is_digit fraction ≡ true → is_clear unit ≡ true
    → 0 < length whole + length fraction → numeral (sign_bytes sign ++ (whole ++ (pointed fraction ++ unit))) ≡ made sign whole fraction unit
unfolding numeral
numeral_is plus whole fraction unit w f clear some = unsigned_is plus whole fraction unit w f clear
numeral_is minus whole fraction unit w f clear some = unsigned_is minus whole fraction unit w f clear
numeral_is bare [] [] unit w f clear some = absurd (omega arith)
numeral_is bare [] (d ∷ more) unit w f clear some = unsigned_is bare [] (d ∷ more) unit w f clear
numeral_is bare (d ∷ more) fraction unit w f clear some =
    let digit = (and_parts (is_digit d) (list_all is_digit more) w).0 in
    let no_plus : (d == 43) ≡ false = not_at d 43 digit refl in
    let no_minus : (d == 45) ≡ false = not_at d 45 digit refl in
    rw (no_plus, no_minus) (unsigned_is bare (d ∷ more) fraction unit w f clear) where
      not_at : (d k : ℕ) → is_digit d ≡ true → is_digit k ≡ false → (d == k) ≡ false
      not_at d k is none = elim (eqb_tells d k) [ inl same ↦ absurd (let e = same.1 in let f : is_digit d ≡ is_digit k = ap is_digit e in cc) | inr other ↦ other.0 ]

-- a number that is put together is read as its parts
pub number_from : (sign : Sign) (whole fraction unit bytes : List ℕ) → IsNumber sign whole fraction unit bytes → is_clear unit ≡ true
    → number_of bytes ≡ Some (made sign whole fraction unit)
unfolding number_of
number_from sign whole fraction unit bytes is clear =
    let made_is = ap numeral is.joined ∙ numeral_is sign whole fraction unit is.whole_digits is.fraction_digits clear is.some in
    let some = is.some in
    let not_both : (length whole == 0 && length fraction == 0) ≡ false = grind (arith, nat_tests) in
    rw (made_is, not_both) refl

-- the sign that was kept
abbrev pub sign_of : Numeral → Sign
sign_of n = cond n.negative minus (cond n.signed plus bare)

numeral_to : (bytes : List ℕ) → bytes ≡ sign_bytes (sign_of (numeral bytes)) ++ ((numeral bytes).whole ++ (pointed (numeral bytes).fraction ++ (numeral bytes).unit))
unfolding numeral unsigned_of fraction_of after_fraction
numeral_to [] = refl
numeral_to (b ∷ rest) =
    elim (eqb_tells b 43) [
      | inl is ↦ rw (is.0, is.1) (ap (λ t. 43 ∷ t) (whole_split rest))
      | inr other ↦ elim (eqb_tells b 45) [
        | inl is ↦ rw (other.0, is.0, is.1) (ap (λ t. 45 ∷ t) (whole_split rest))
        | inr neither ↦ rw (other.0, neither.0) (whole_split (b ∷ rest))
      ]
    ] where
      whole_split : (bytes : List ℕ) → bytes ≡ digits bytes ++ (pointed (fraction_of (skip is_digit bytes)) ++ after_fraction (skip is_digit bytes))
      whole_split bytes = digits_split bytes ∙ ap (λ t. digits bytes ++ t) (fraction_split (skip is_digit bytes))

numeral_whole : (bytes : List ℕ) → list_all is_digit (numeral bytes).whole ≡ true
unfolding numeral unsigned_of
numeral_whole [] = refl
numeral_whole (b ∷ rest) =
    elim (cases_Bool (b == 43)) [
      | inl is ↦ rw is (digits_pass rest)
      | inr other ↦ elim (cases_Bool (b == 45)) [ inl is ↦ rw (other, is) (digits_pass rest) | inr neither ↦ rw (other, neither) (digits_pass (b ∷ rest)) ]
    ]

numeral_fraction : (bytes : List ℕ) → list_all is_digit (numeral bytes).fraction ≡ true
unfolding numeral unsigned_of fraction_of
numeral_fraction [] = refl
numeral_fraction (b ∷ rest) =
    elim (cases_Bool (b == 43)) [
      | inl is ↦ rw is (fraction_pass (skip is_digit rest))
      | inr other ↦ elim (cases_Bool (b == 45)) [
        | inl is ↦ rw (other, is) (fraction_pass (skip is_digit rest))
        | inr neither ↦ rw (other, neither) (fraction_pass (skip is_digit (b ∷ rest)))
      ]
    ]

-- a number that is read is put together from its parts
pub number_to : (bytes : List ℕ) (n : Numeral) → number_of bytes ≡ Some n → IsNumber (sign_of n) n.whole n.fraction n.unit bytes
unfolding number_of
number_to bytes n e =
    elim (cases_Bool (length (numeral bytes).whole == 0 && length (numeral bytes).fraction == 0)) [
      | inl none ↦ absurd (let f : None ≡ Some n = rw none at e in cc)
      | inr some ↦ let f : Some (numeral bytes) ≡ Some n = rw some at e in
          let same : numeral bytes ≡ n = cc in
          subst (λ m. IsNumber (sign_of m) m.whole m.fraction m.unit bytes) same (record {
            whole_digits = numeral_whole bytes;
            fraction_digits = numeral_fraction bytes;
            some = grind (arith, nat_tests);
            joined = numeral_to bytes;
          })
    ]
