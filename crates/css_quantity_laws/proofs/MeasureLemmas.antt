-- Numbers with a unit.
use Rattle.std.proofs.Common.{ℕ, ◌≡◌, ◌≤◌, ◌==◌, ◌&&◌, not, Bool, true, false, List, [], ◌∷◌, Some, None, refl, subst, inl, inr, arith, nat_lt}
use Rattle.std.proofs.lemmas.Bool.{cases_Bool, ltb-true, ltb-false}
use Rattle.std.proofs.lemmas.Bool.Decides.{eqb_tells}
use Rattle.std.proofs.lemmas.Int.{ints}
use Rattle.style_tokens.specs.declared.token.CssKind.TheVariants.{Number}
use Rattle.css_words.specs.Keywords.{is_keyword}
use Rattle.css_words.specs.Numerals.{Numeral, number_of, lone_number, amount, is_zero}
use Rattle.css_quantities.specs.Quantities.{within, size_of}
use Rattle.css_words.specs.Words.{Word, lone, when_number}
use Rattle.css_word_laws.specs.SpelledNumbers.{Sign, word, with_sign, IsNumber, IsMeasure, IsNought}
use Rattle.css_word_laws.specs.SpelledNumbers.Sign.{bare, plus, minus}
use Rattle.css_quantity_laws.specs.SpelledQuantities.{MayStand, IsPast}
use Rattle.css_word_laws.proofs.KeywordLemmas.{then_to, lone_number_is, number_alone}
use Rattle.css_word_laws.proofs.NumberLemmas.{is_clear, is_minus, made, sign_of, number_from, number_to}
use Rattle.css_word_laws.proofs.Readings.{Reads, reads_bad, reads_ok, reads_over, reads_if, reads_of}
use Rattle.css_word_laws.proofs.SizeLemmas.{size_to, size_from, zero_to, zero_from}

-- the words are one number, which is read as this one
pub record IsRead (words : List Word) (n : Numeral) : Type 0 where
  pub bytes : List ℕ
  pub alone : words ≡ word Number bytes ∷ []
  pub number : IsNumber (sign_of n) n.whole n.fraction n.unit bytes

pub read_is : (words : List Word) (n : Numeral) → lone_number words ≡ Some n → IsRead words n
unfolding lone_number
read_is words n e =
    let both = then_to number_of (lone when_number words) n e in
    record { bytes = both.x; alone = lone_number_is words both.x both.first; number = number_to both.x n both.second }

pub lone_from : (words : List Word) (sign : Sign) (whole fraction unit bytes : List ℕ) → words ≡ word Number bytes ∷ [] → IsNumber sign whole fraction unit bytes
    → is_clear unit ≡ true → lone_number words ≡ Some (made sign whole fraction unit)
unfolding lone_number
lone_from words sign whole fraction unit bytes alone is clear =
    rw (alone, number_alone bytes) (number_from sign whole fraction unit bytes is clear)

-- no number with this unit has a digit or a point behind it
abbrev pub Clear : List ℕ → Type 0
Clear unit = (written : List ℕ) → is_keyword unit written ≡ true → is_clear written ≡ true

pub measure_to : (unit : List ℕ) (places : ℕ) (words : List Word) (n : Numeral) (size : ℕ) → lone_number words ≡ Some n → is_keyword unit n.unit ≡ true
    → amount places n ≡ Some size → IsMeasure unit places words (sign_of n) size
measure_to unit places words n size e has is =
    let read = read_is words n e in
    record {
      whole = n.whole;
      fraction = n.fraction;
      written = n.unit;
      bytes = read.bytes;
      alone = read.alone;
      number = read.number;
      has_unit = has;
      is_size = size_to places n size read.number.whole_digits read.number.fraction_digits is;
    }

-- what is read of such a number
pub record IsMade (unit : List ℕ) (places : ℕ) (words : List Word) (sign : Sign) (size : ℕ) (n : Numeral) : Type 0 where
  pub sign_is : n.negative ≡ is_minus sign
  pub has_unit : is_keyword unit n.unit ≡ true
  pub amount_is : amount places n ≡ Some size

pub measure_from : (unit : List ℕ) (places : ℕ) (words : List Word) (sign : Sign) (size : ℕ) (n : Numeral) → Clear unit → lone_number words ≡ Some n
    → IsMeasure unit places words sign size → IsMade unit places words sign size n
measure_from unit places words sign size n clear e is =
    let f = lone_from words sign is.whole is.fraction is.written is.bytes is.alone is.number (clear is.written is.has_unit) in
    let same : made sign is.whole is.fraction is.written ≡ n = cc in
    subst (λ m. IsMade unit places words sign size m) same (record {
      sign_is = refl;
      has_unit = is.has_unit;
      amount_is = size_from places (made sign is.whole is.fraction is.written) size is.number.whole_digits is.number.fraction_digits is.is_size;
    })

pub measure_none : (unit : List ℕ) (places : ℕ) (words : List Word) (sign : Sign) (size : ℕ) → Clear unit → lone_number words ≡ None
    → IsMeasure unit places words sign size → ⊥
measure_none unit places words sign size clear e is =
    let f = lone_from words sign is.whole is.fraction is.written is.bytes is.alone is.number (clear is.written is.has_unit) in cc

pub nought_to : (unit : List ℕ) (words : List Word) (n : Numeral) → lone_number words ≡ Some n → is_keyword unit n.unit ≡ true → is_zero n ≡ true → IsNought unit words
nought_to unit words n e has is =
    let read = read_is words n e in
    let zero = zero_to n is in
    record {
      sign = sign_of n;
      whole = n.whole;
      fraction = n.fraction;
      written = n.unit;
      bytes = read.bytes;
      alone = read.alone;
      number = read.number;
      has_unit = has;
      few = zero.0;
      value = zero.1;
    }

pub nought_from : (unit : List ℕ) (words : List Word) (n : Numeral) → Clear unit → lone_number words ≡ Some n → IsNought unit words
    → (is_keyword unit n.unit ≡ true) × (is_zero n ≡ true)
nought_from unit words n clear e is =
    let f = lone_from words is.sign is.whole is.fraction is.written is.bytes is.alone is.number (clear is.written is.has_unit) in
    let same : made is.sign is.whole is.fraction is.written ≡ n = cc in
    subst (λ (m : Numeral). (is_keyword unit m.unit ≡ true) × (is_zero m ≡ true)) same
    (is.has_unit, zero_from (made is.sign is.whole is.fraction is.written) is.number.whole_digits is.number.fraction_digits is.few is.value)

pub nought_none : (unit : List ℕ) (words : List Word) → Clear unit → lone_number words ≡ None → IsNought unit words → ⊥
nought_none unit words clear e is =
    let f = lone_from words is.sign is.whole is.fraction is.written is.bytes is.alone is.number (clear is.written is.has_unit) in cc

-- a size up to a limit that may have its sign
pub record IsSized (unit : List ℕ) (places limit : ℕ) (signed : Bool) (words : List Word) (m : ℕ) : Type 0 where
  pub sign : Sign
  pub measure : IsMeasure unit places words sign m
  pub may : MayStand signed (with_sign sign m)
  pub small : m ≤ limit

-- whether a sign may stand, as it is read
abbrev refused : Bool → Bool → ℕ → Bool
refused signed negative size = negative && (not signed && not (size == 0))

may_from : (signed : Bool) (sign : Sign) (size : ℕ) → MayStand signed (with_sign sign size) → refused signed (is_minus sign) size ≡ false
may_from true bare size may = refl
may_from true plus size may = refl
may_from true minus size may = refl
may_from false bare size may = refl
may_from false plus size may = refl
may_from false minus size may = let h = may refl in let e : size ≡ 0 = omega (arith, ints) in rw e refl

may_to : (signed : Bool) (sign : Sign) (size : ℕ) → refused signed (is_minus sign) size ≡ false → MayStand signed (with_sign sign size)
may_to true sign size fits = λ e. absurd (cc)
may_to false bare size fits = λ e. omega (arith, ints)
may_to false plus size fits = λ e. omega (arith, ints)
may_to false minus size fits = λ e. elim (eqb_tells size 0) [ inl is ↦ let z = is.1 in omega (arith, ints) | inr other ↦ absurd (let h : refused false true size ≡ true = rw other.0 refl in cc) ]

sign_is : (n : Numeral) → is_minus (sign_of n) ≡ n.negative
sign_is n = elim (cases_Bool n.negative) [
  | inl is ↦ rw is refl
  | inr plain ↦ elim (cases_Bool n.signed) [ inl is ↦ rw (plain, is) refl | inr none ↦ rw (plain, none) refl ]
]

-- a number with its unit is read as its size
pub size_reads : (unit : List ℕ) (places limit : ℕ) (signed : Bool) (words : List Word) (n : Numeral) → Clear unit → lone_number words ≡ Some n
    → is_keyword unit n.unit ≡ true → Reads (size_of places signed limit n) (IsSized unit places limit signed words) (IsPast unit places limit signed words)
unfolding size_of within
size_reads unit places limit signed words n clear e has =
    reads_of (amount places n) _ (IsSized unit places limit signed words) (IsPast unit places limit signed words)
    (λ none. reads_bad _ _
    (λ m s. let is = measure_from unit places words s.sign m n clear e s.measure in let f = is.amount_is in cc)
    (λ p. let is = measure_from unit places words p.sign p.size n clear e p.measure in let f = is.amount_is in cc))
    (λ size some. reads_if (refused signed n.negative size) _ _ _ _
    (λ bad. reads_bad _ _
    (λ m s. let is = measure_from unit places words s.sign m n clear e s.measure in
    unfit signed n.negative size s.sign m (may_from signed s.sign m s.may) is.sign_is (let f = is.amount_is in cc) bad)
    (λ p. let is = measure_from unit places words p.sign p.size n clear e p.measure in
    unfit signed n.negative size p.sign p.size (may_from signed p.sign p.size p.may) is.sign_is (let f = is.amount_is in cc) bad))
    (λ good. reads_if (nat_lt limit size) _ _ _ _
    (λ over. reads_over _ _
    (record {
      sign = sign_of n;
      size = size;
      measure = measure_to unit places words n size e has some;
      may = may_to signed (sign_of n) size (rw (sign_is n) good);
      large = ltb-true limit size over;
    })
    (λ m s. let is = measure_from unit places words s.sign m n clear e s.measure in let f = is.amount_is in
    let same : size ≡ m = cc in let small = s.small in let large = ltb-true limit size over in omega arith))
    (λ few. reads_ok _ _ size
    (record {
      sign = sign_of n;
      measure = measure_to unit places words n size e has some;
      may = may_to signed (sign_of n) size (rw (sign_is n) good);
      small = ltb-false limit size few;
    })
    (λ m s. let is = measure_from unit places words s.sign m n clear e s.measure in let f = is.amount_is in cc)
    (λ p. let is = measure_from unit places words p.sign p.size n clear e p.measure in let f = is.amount_is in
    let same : size ≡ p.size = cc in let large = p.large in let small = ltb-false limit size few in omega arith)))) where
      unfit : (signed negative : Bool) (size : ℕ) (sign : Sign) (m : ℕ) → refused signed (is_minus sign) m ≡ false → negative ≡ is_minus sign → size ≡ m
          → refused signed negative size ≡ true → ⊥
      unfit signed negative size sign m fits same size_same bad =
          let g : refused signed (is_minus sign) m ≡ true = subst (λ k. refused signed (is_minus sign) k ≡ true) size_same (subst (λ b. refused signed b size ≡ true) same bad) in
          cc
