-- Words of a table, names and whole numbers.
use Rattle.std.proofs.Common.{ℕ, ◌≡◌, ◌∙◌, ◌⊎◌, ◌≤◌, ◌*◌, ◌^◌, ◌==◌, ◌&&◌, ◌||◌, not, Bool, true, false, cond, List, [], ◌∷◌, ◌++◌, length, Some, None, option_and_then, refl, ap, sym, subst, inl, inr, arith, append-nil}
use Rattle.std.proofs.lemmas.Bool.{cases_Bool, and_parts, or_parts, eqb-true}
use Rattle.css_words.specs.Keywords.{is_keyword, lookup}
use Rattle.css_words.specs.Numerals.{Numeral, numeral, number_of, unsigned_of, whole_of, amount}
use Rattle.css_word_laws.specs.SpelledNumbers.{Sign, tens, sign_bytes, pointed, IsNumber, IsSize}
use Rattle.css_word_laws.specs.SpelledNumbers.Sign.{bare}
use Rattle.css_word_laws.specs.SpelledWords.{IsEntry, IsWhole}
use Rattle.css_word_laws.proofs.KeywordLemmas.{one_keyword, then_to}
use Rattle.css_word_laws.proofs.NumberLemmas.{made, sign_of, number_from, number_to}
use Rattle.css_word_laws.proofs.SizeLemmas.{size_to, size_from}

-- no word of the table is this one
abbrev pub absent : {A : Type 0} → List ℕ → List (List ℕ × A) → Bool
absent keyword [] = true
absent keyword (entry ∷ table) = not (is_keyword keyword entry.0) && absent keyword table

-- no two words of a table are one
abbrev pub are_distinct : {A : Type 0} → List (List ℕ × A) → Bool
are_distinct [] = true
are_distinct (entry ∷ table) = absent entry.0 table && are_distinct table

pub entry_to : {A : Type 0} (table : List (List ℕ × A)) (bytes : List ℕ) (value : A) → lookup table bytes ≡ Some value → IsEntry table bytes value
entry_to [] bytes value e = absurd (cc)
entry_to {A} (entry ∷ table) bytes value e = elim (cases_Bool (is_keyword entry.0 bytes)) [
  | inl is ↦ let f : Some entry.1 ≡ Some value = rw is at e in inl (is, cc)
  | inr other ↦ let f : lookup table bytes ≡ Some value = rw other at e in inr (entry_to table bytes value f)
]

pub entry_absent : {A : Type 0} (table : List (List ℕ × A)) (bytes keyword : List ℕ) (value : A) → is_keyword keyword bytes ≡ true → absent keyword table ≡ true
    → IsEntry table bytes value → ⊥
entry_absent [] bytes keyword value is none found = found
entry_absent (entry ∷ table) bytes keyword value is none found =
    let both = and_parts (not (is_keyword keyword entry.0)) (absent keyword table) none in
    elim found [
      | inl here ↦ let same = one_keyword keyword entry.0 bytes is here.0 in let differ = both.0 in
          absurd (let h : not (is_keyword keyword entry.0) ≡ false = rw same refl in cc)
      | inr later ↦ entry_absent table bytes keyword value is both.1 later
    ]

pub entry_from : {A : Type 0} (table : List (List ℕ × A)) (bytes : List ℕ) (value : A) → are_distinct table ≡ true → IsEntry table bytes value
    → lookup table bytes ≡ Some value
entry_from [] bytes value distinct found = absurd found
entry_from (entry ∷ table) bytes value distinct found =
    let both = and_parts (absent entry.0 table) (are_distinct table) distinct in
    elim found [
      | inl here ↦ rw here.0 (ap (λ t. Some t) (sym here.1))
      | inr later ↦ elim (cases_Bool (is_keyword entry.0 bytes)) [
        | inl is ↦ absurd (entry_absent table bytes entry.0 value is both.0 later)
        | inr other ↦ rw other (entry_from table bytes value both.1 later)
      ]
    ]

-- whole numbers
no_minus : (bytes : List ℕ) → (numeral bytes).signed ≡ false → (numeral bytes).negative ≡ false
unfolding numeral unsigned_of
no_minus [] e = refl
no_minus (b ∷ rest) e = elim (cases_Bool (b == 43)) [
  | inl is ↦ rw is refl
  | inr other ↦ elim (cases_Bool (b == 45)) [
    | inl is ↦ absurd (let f : true ≡ false = rw (other, is) at e in cc)
    | inr neither ↦ rw (other, neither) refl
  ]
]

number_is : (bytes : List ℕ) (n : Numeral) → number_of bytes ≡ Some n → numeral bytes ≡ n
unfolding number_of
number_is bytes n e = elim (cases_Bool (length (numeral bytes).whole == 0 && length (numeral bytes).fraction == 0)) [
  | inl none ↦ absurd (let f : None ≡ Some n = rw none at e in cc)
  | inr some ↦ let f : Some (numeral bytes) ≡ Some n = rw some at e in cc
]

empty_is : {A : Type 0} (xs : List A) → length xs ≤ 0 → xs ≡ []
empty_is [] few = refl
empty_is (x ∷ xs) few = absurd (omega arith)

pub whole_from : (bytes : List ℕ) (n : ℕ) → IsWhole bytes n → option_and_then whole_of (number_of bytes) ≡ Some n
unfolding whole_of
whole_from bytes n is =
    let some = is.some in
    let number : IsNumber bare bytes [] [] bytes = record { whole_digits = is.digits; fraction_digits = refl; some = omega arith; joined = sym (append-nil bytes) } in
    let read = number_from bare bytes [] [] bytes number refl in
    let size : IsSize 0 bytes [] n = record { few = is.few; decimals = omega arith; value = value n bytes is.value } in
    rw read (size_from 0 (made bare bytes [] []) n is.digits refl size) where
      value : (n : ℕ) (bytes : List ℕ) → n ≡ tens bytes → n * 10 ^ 0 ≡ tens (bytes ++ []) * 10 ^ 0
      value n bytes e = rw (append-nil bytes, e) refl

pub whole_to : (bytes : List ℕ) (n : ℕ) → option_and_then whole_of (number_of bytes) ≡ Some n → IsWhole bytes n
unfolding whole_of
whole_to bytes n e =
    let both = then_to whole_of (number_of bytes) n e in
    parts both.x both.first (cases_Bool (both.x.signed || not (length both.x.unit == 0))) both.second where
      joined : (whole fraction unit : List ℕ) (sign : Sign) → sign ≡ bare → fraction ≡ [] → unit ≡ []
          → bytes ≡ sign_bytes sign ++ (whole ++ (pointed fraction ++ unit)) → bytes ≡ whole
      joined whole fraction unit sign p q r e = e ∙ rw (p, q, r) (append-nil whole)

      last : (n : ℕ) (whole fraction : List ℕ) → fraction ≡ [] → n * 10 ^ length fraction ≡ tens (whole ++ fraction) * 10 ^ 0 → n ≡ tens whole
      last n whole fraction none e =
          let f : n * 10 ^ 0 ≡ tens (whole ++ []) * 10 ^ 0 = subst (λ t. n * 10 ^ length t ≡ tens (whole ++ t) * 10 ^ 0) none e in
          let g : n * 10 ^ 0 ≡ tens whole * 10 ^ 0 = f ∙ ap (λ t. tens t * 10 ^ 0) (append-nil whole) in
          omega arith

      found : (x : Numeral) → IsNumber (sign_of x) x.whole x.fraction x.unit bytes → sign_of x ≡ bare → x.unit ≡ [] → amount 0 x ≡ Some n → IsWhole bytes n
      found x number plain none is =
          let size = size_to 0 x n number.whole_digits number.fraction_digits is in
          let fraction = empty_is x.fraction size.decimals in
          let same = joined x.whole x.fraction x.unit (sign_of x) plain fraction none number.joined in
          let some = number.some in
          let short : length x.fraction ≡ 0 = ap length fraction in
          subst (λ b. IsWhole b n) (sym same) (record {
            digits = number.whole_digits;
            some = omega arith;
            few = size.few;
            value = last n x.whole x.fraction fraction size.value;
          })

      no_unit : (k : ℕ) → not (k == 0) ≡ false → k ≡ 0
      no_unit k e = elim (cases_Bool (k == 0)) [ inl is ↦ eqb-true k 0 is | inr other ↦ absurd (let f : true ≡ false = rw other at e in cc) ]

      parts : (x : Numeral) → number_of bytes ≡ Some x → ((x.signed || not (length x.unit == 0)) ≡ true) ⊎ ((x.signed || not (length x.unit == 0)) ≡ false)
          → cond (x.signed || not (length x.unit == 0)) None (amount 0 x) ≡ Some n → IsWhole bytes n
      parts x is (inl bad) e = absurd (let f : None ≡ Some n = rw bad at e in cc)
      parts x is (inr good) e =
          let both = or_parts x.signed (not (length x.unit == 0)) good in
          let f : amount 0 x ≡ Some n = rw good at e in
          let same = number_is bytes x is in
          let plain = subst (λ (m : Numeral). m.signed ≡ false → m.negative ≡ false) same (no_minus bytes) both.0 in
          found x (number_to bytes x is) (rw (plain, both.0) refl) (empty_is x.unit (let z = no_unit (length x.unit) both.1 in omega arith)) f
