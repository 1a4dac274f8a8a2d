-- Quantities that are read are those that are spelled.
use Rattle.std.proofs.Common.{ℕ, ℤ, pos, ◌≡◌, ◌∙◌, ◌==◌, ◌&&◌, ◌||◌, Bool, true, false, cond, List, [], ◌∷◌, length, Option, Some, None, Ok, Err, refl, ap, sym, subst, inl, inr, arith, codes}
use Rattle.std.proofs.lemmas.Bool.{cases_Bool, and_parts, and_from, or_cases, or_left, or_right}
use Rattle.std.proofs.lemmas.Int.{ints}
use Rattle.page_model.specs.declared.animation.Count.{Count}
use Rattle.page_model.specs.declared.animation.Count.TheVariants.{Times, Infinite}
use Rattle.style_tokens.specs.declared.token.CssKind.TheVariants.{Ident, Number}
use Rattle.css_words.specs.declared.fault.ValueFault.TheVariants.{BadValue}
use Rattle.css_words.specs.Keywords.{is_keyword}
use Rattle.css_words.specs.Numerals.{Numeral, lone_number, amount, is_zero, share_of, signed_int}
use Rattle.css_quantities.specs.Quantities.{size_of, length_size, length_of, time_size, time_of, duration_of, percentage_of, opacity_of, z_index_of, count_of, is_nothing}
use Rattle.css_words.specs.Words.{Word, is_lone, or_bad, mapped}
use Rattle.css_word_laws.specs.SpelledNumbers.{Sign, word, with_sign, IsMeasure, IsNought}
use Rattle.css_word_laws.specs.SpelledNumbers.Sign.{bare, plus, minus}
use Rattle.css_quantity_laws.specs.SpelledQuantities.{MayStand, IsWithin, IsPast, SpellsLength, PastLength, SpellsTime, PastTime, SpellsDuration, SpellsPercentage, SpellsOpacity, SpellsZIndex, PastZIndex, SpellsCount, PastCount, SpellsNothing}
use Rattle.css_word_laws.specs.SpelledWords.{IsWord}
use Rattle.css_quantity_laws.specs.SpelledQuantities.SpellsCount.{endless, times}
use Rattle.css_word_laws.specs.ValueLaws.{NonePast}
use Rattle.css_word_laws.proofs.KeywordLemmas.{same_kind, one_keyword, empty_from, empty_to, unit_clear, none_clear, word_to, word_from}
use Rattle.css_quantity_laws.proofs.MeasureLemmas.{Clear, IsSized, measure_to, measure_from, measure_none, nought_to, nought_from, nought_none, size_reads, read_is}
use Rattle.css_word_laws.proofs.NumberLemmas.{is_minus, sign_of}
use Rattle.css_word_laws.proofs.ShareLemmas.{share_parts, held_back}
use Rattle.css_word_laws.proofs.Readings.{Reads, Becomes, reads_bad, reads_ok, reads_like, reads_mapped, reads_if, reads_of}

clear_px : Clear (codes "px")
clear_px = λ written is. unit_clear 112 (codes "x") written refl is

pub clear_s : Clear (codes "s")
clear_s = λ written is. unit_clear 115 [] written refl is

pub clear_ms : Clear (codes "ms")
clear_ms = λ written is. unit_clear 109 (codes "s") written refl is

clear_percent : Clear (codes "%")
clear_percent = λ written is. unit_clear 37 [] written refl is

pub clear_none : Clear []
clear_none = none_clear

signed_is : (sign : Sign) (size : ℕ) → signed_int (is_minus sign) size ≡ with_sign sign size
signed_is bare size = refl
signed_is plus size = refl
signed_is minus size = refl

signed_same : (b : Bool) (m k : ℕ) → signed_int b m ≡ signed_int b k → m ≡ k
signed_same true m k e = omega (arith, ints)
signed_same false m k e = omega (arith, ints)

-- a size with its sign is a number within the limit
signed_reads : (unit : List ℕ) (places limit : ℕ) (signed : Bool) (words : List Word) (n : Numeral) → Clear unit → lone_number words ≡ Some n
    → is_keyword unit n.unit ≡ true
    → Reads (mapped (signed_int n.negative) (size_of places signed limit n)) (IsWithin unit places limit signed words) (IsPast unit places limit signed words)
signed_reads unit places limit signed words n clear e has =
    reads_like (IsWithin unit places limit signed words) (IsPast unit places limit signed words)
    (reads_mapped (signed_int n.negative) (size_of places signed limit n) _ _ (size_reads unit places limit signed words n clear e has))
    (λ v s. let sized = s.1 in
    let is = measure_from unit places words sized.sign s.0 n clear e sized.measure in
    let same : v ≡ with_sign sized.sign s.0 = sym s.2 ∙ ap (λ b. signed_int b s.0) is.sign_is ∙ signed_is sized.sign s.0 in
    record { sign = sized.sign; size = s.0; measure = sized.measure; value = same; may = subst (λ z. MayStand signed z) (sym same) sized.may; small = sized.small })
    (λ v within. let is = measure_from unit places words within.sign within.size n clear e within.measure in (
      within.size,
      record { sign = within.sign; measure = within.measure; may = subst (λ z. MayStand signed z) within.value within.may; small = within.small },
      ap (λ b. signed_int b within.size) is.sign_is ∙ signed_is within.sign within.size ∙ sym within.value,
    ))
    (λ p. p) (λ p. p)

-- a size that is not negative
plain_value : (sign : Sign) (m : ℕ) → MayStand false (with_sign sign m) → pos m ≡ with_sign sign m
plain_value bare m may = refl
plain_value plus m may = refl
plain_value minus m may = let h = may refl in omega (arith, ints)

plain_size : (sign : Sign) (m size : ℕ) → MayStand false (pos m) → pos m ≡ with_sign sign size → size ≡ m
plain_size bare m size may e = omega (arith, ints)
plain_size plus m size may e = omega (arith, ints)
plain_size minus m size may e = omega (arith, ints)

sized_within : (unit : List ℕ) (places limit : ℕ) (words : List Word) (m : ℕ) → IsSized unit places limit false words m → IsWithin unit places limit false words (pos m)
sized_within unit places limit words m s =
    let same = plain_value s.sign m s.may in
    record { sign = s.sign; size = m; measure = s.measure; value = same; may = λ e. omega (arith, ints); small = s.small }

within_sized : (unit : List ℕ) (places limit : ℕ) (words : List Word) (m : ℕ) → IsWithin unit places limit false words (pos m) → IsSized unit places limit false words m
within_sized unit places limit words m w =
    let same = plain_size w.sign m w.size w.may w.value in
    subst (λ k. IsSized unit places limit false words k) same
    (record { sign = w.sign; measure = w.measure; may = subst (λ z. MayStand false z) w.value w.may; small = w.small })

plain_reads : (unit : List ℕ) (places limit : ℕ) (words : List Word) (n : Numeral) → Clear unit → lone_number words ≡ Some n
    → is_keyword unit n.unit ≡ true
    → Reads (size_of places false limit n) (λ m. IsWithin unit places limit false words (pos m)) (IsPast unit places limit false words)
plain_reads unit places limit words n clear e has =
    reads_like _ _ (size_reads unit places limit false words n clear e has) (sized_within unit places limit words) (within_sized unit places limit words)
    (λ p. p) (λ p. p)

-- of two units that differ, a number has one
pub other_unit : (a b written : List ℕ) → is_keyword a b ≡ false → is_keyword a written ≡ true → is_keyword b written ≡ true → ⊥
other_unit a b written differ p q = let is = one_keyword a b written p q in cc

no_within : (unit : List ℕ) (places limit : ℕ) (signed : Bool) (words : List Word) (n : Numeral) (v : ℤ) → Clear unit → lone_number words ≡ Some n
    → is_keyword unit n.unit ≡ false → IsWithin unit places limit signed words v → ⊥
no_within unit places limit signed words n v clear e none w =
    let is = measure_from unit places words w.sign w.size n clear e w.measure in let has = is.has_unit in cc

no_past : (unit : List ℕ) (places limit : ℕ) (signed : Bool) (words : List Word) (n : Numeral) → Clear unit → lone_number words ≡ Some n
    → is_keyword unit n.unit ≡ false → IsPast unit places limit signed words → ⊥
no_past unit places limit signed words n clear e none p =
    let is = measure_from unit places words p.sign p.size n clear e p.measure in let has = is.has_unit in cc

no_nought : (unit : List ℕ) (words : List Word) (n : Numeral) → Clear unit → lone_number words ≡ Some n → is_keyword unit n.unit ≡ false → IsNought unit words → ⊥
no_nought unit words n clear e none is = let both = nought_from unit words n clear e is in let has = both.0 in cc

unit_not : (a b written : List ℕ) → is_keyword a b ≡ false → is_keyword a written ≡ true → is_keyword b written ≡ false
unit_not a b written differ p = elim (cases_Bool (is_keyword b written)) [ inl q ↦ absurd (other_unit a b written differ p q) | inr q ↦ q ]

unit_some : (written : List ℕ) → is_keyword [] written ≡ false → (length written == 0) ≡ false
unit_some written none = elim (cases_Bool (length written == 0)) [ inl is ↦ absurd (let has = empty_to written is in cc) | inr other ↦ other ]

unit_none : (written : List ℕ) → (length written == 0) ≡ false → is_keyword [] written ≡ false
unit_none written none = elim (cases_Bool (is_keyword [] written)) [ inl is ↦ absurd (let has = empty_from written is in cc) | inr other ↦ other ]

apart_px : is_keyword (codes "px") [] ≡ false
unfolding is_keyword
apart_px = refl

pub apart_s : is_keyword (codes "s") (codes "ms") ≡ false
unfolding is_keyword
apart_s = refl

pub length_reads : (signed : Bool) (words : List Word) → Reads (length_of signed words) (SpellsLength signed words) (PastLength signed words)
unfolding length_of length_size
length_reads signed words =
    reads_of (lone_number words) _ (SpellsLength signed words) (PastLength signed words)
    (λ none. reads_bad _ _
    (λ v s. elim s [
      | inl w ↦ measure_none (codes "px") 2 words w.sign w.size clear_px none w.measure
      | inr z ↦ nought_none [] words clear_none none z.0
    ])
    (λ p. measure_none (codes "px") 2 words p.sign p.size clear_px none p.measure))
    (λ n e. pixels n e) where
      nought : (n : Numeral) → lone_number words ≡ Some n → is_keyword (codes "px") n.unit ≡ false
          → Reads (mapped (signed_int n.negative) (cond (length n.unit == 0 && is_zero n) (Ok 0) (Err BadValue))) (SpellsLength signed words) (PastLength signed words)
      nought n e px = elim (cases_Bool (length n.unit == 0 && is_zero n)) [
        | inl is ↦ let both = and_parts (length n.unit == 0) (is_zero n) is in
            rw is (reads_ok (SpellsLength signed words) (PastLength signed words) (signed_int n.negative 0)
            (inr (nought_to [] words n e (empty_to n.unit both.0) both.1, zero_is n.negative))
            (λ v s. elim s [
              | inl w ↦ absurd (no_within (codes "px") 2 819200 signed words n v clear_px e px w)
              | inr z ↦ zero_is n.negative ∙ sym z.1
            ])
            (no_past (codes "px") 2 819200 signed words n clear_px e px))
        | inr not_is ↦ rw not_is (reads_bad (SpellsLength signed words) (PastLength signed words)
            (λ v s. elim s [
              | inl w ↦ no_within (codes "px") 2 819200 signed words n v clear_px e px w
              | inr z ↦ let both = nought_from [] words n clear_none e z.0 in
                  let g = and_from (length n.unit == 0) (is_zero n) (empty_from n.unit both.0) both.1 in cc
            ])
            (no_past (codes "px") 2 819200 signed words n clear_px e px))
      ] where
        zero_is : (b : Bool) → signed_int b 0 ≡ pos 0
        zero_is true = refl
        zero_is false = refl

      pixels : (n : Numeral) → lone_number words ≡ Some n → Reads (mapped (signed_int n.negative) (length_size signed n)) (SpellsLength signed words) (PastLength signed words)
      pixels n e = elim (cases_Bool (is_keyword (codes "px") n.unit)) [
        | inl px ↦ rw px (reads_like (SpellsLength signed words) (PastLength signed words)
            (signed_reads (codes "px") 2 819200 signed words n clear_px e px)
            (λ v w. inl w)
            (λ v s. elim s [
              | inl w ↦ w
              | inr z ↦ absurd (let both = nought_from [] words n clear_none e z.0 in other_unit (codes "px") [] n.unit apart_px px both.0)
            ])
            (λ p. p) (λ p. p))
        | inr other ↦ rw other (nought n e other)
      ]

no_word : (keyword : List ℕ) (words : List Word) → is_lone keyword words ≡ false → IsWord keyword words → ⊥
no_word keyword words none is = let e = word_from keyword words is in cc

kinds_apart : (words : List Word) (a b : List ℕ) → words ≡ word Ident a ∷ [] → words ≡ word Number b ∷ [] → ⊥
kinds_apart words a b p q = let e : Ident ≡ Number = same_kind words Ident Number a b [] [] p q in cc

-- a keyword is no number
word_no_number : (keyword : List ℕ) (words : List Word) (n : Numeral) → lone_number words ≡ Some n → IsWord keyword words → ⊥
word_no_number keyword words n e is = let read = read_is words n e in kinds_apart words is.bytes read.bytes is.alone read.alone

number_no_word : (keyword unit : List ℕ) (places : ℕ) (words : List Word) (sign : Sign) (size : ℕ) → is_lone keyword words ≡ true → IsMeasure unit places words sign size → ⊥
number_no_word keyword unit places words sign size e is = let found = word_to keyword words e in kinds_apart words found.bytes is.bytes found.alone is.alone

pub time_reads : (signed : Bool) (words : List Word) → Reads (time_of signed words) (SpellsTime signed words) (PastTime signed words)
unfolding time_of time_size
time_reads signed words =
    reads_of (lone_number words) _ (SpellsTime signed words) (PastTime signed words)
    (λ none. reads_bad _ _
    (λ v s. elim s [
      | inl w ↦ measure_none (codes "s") 3 words w.sign w.size clear_s none w.measure
      | inr w ↦ measure_none (codes "ms") 0 words w.sign w.size clear_ms none w.measure
    ])
    (λ p. elim p [
      | inl q ↦ measure_none (codes "s") 3 words q.sign q.size clear_s none q.measure
      | inr q ↦ measure_none (codes "ms") 0 words q.sign q.size clear_ms none q.measure
    ]))
    (λ n e. elim (cases_Bool (is_keyword (codes "s") n.unit)) [
      | inl has ↦ let none = unit_not (codes "s") (codes "ms") n.unit apart_s has in
          rw has (reads_like (SpellsTime signed words) (PastTime signed words) (signed_reads (codes "s") 3 100000 signed words n clear_s e has)
          (λ v w. inl w)
          (λ v s. elim s [ inl w ↦ w | inr w ↦ absurd (no_within (codes "ms") 0 100000 signed words n v clear_ms e none w) ])
          (λ p. inl p)
          (λ p. elim p [ inl q ↦ q | inr q ↦ absurd (no_past (codes "ms") 0 100000 signed words n clear_ms e none q) ]))
      | inr none ↦ rw none (elim (cases_Bool (is_keyword (codes "ms") n.unit)) [
        | inl has ↦ rw has (reads_like (SpellsTime signed words) (PastTime signed words) (signed_reads (codes "ms") 0 100000 signed words n clear_ms e has)
            (λ v w. inr w)
            (λ v s. elim s [ inr w ↦ w | inl w ↦ absurd (no_within (codes "s") 3 100000 signed words n v clear_s e none w) ])
            (λ p. inr p)
            (λ p. elim p [ inr q ↦ q | inl q ↦ absurd (no_past (codes "s") 3 100000 signed words n clear_s e none q) ]))
        | inr neither ↦ rw neither (reads_bad (SpellsTime signed words) (PastTime signed words)
            (λ v s. elim s [
              | inl w ↦ no_within (codes "s") 3 100000 signed words n v clear_s e none w
              | inr w ↦ no_within (codes "ms") 0 100000 signed words n v clear_ms e neither w
            ])
            (λ p. elim p [
              | inl q ↦ no_past (codes "s") 3 100000 signed words n clear_s e none q
              | inr q ↦ no_past (codes "ms") 0 100000 signed words n clear_ms e neither q
            ]))
      ])
    ])

-- a time that is not negative
pub duration_reads : (words : List Word) → Reads (duration_of words) (SpellsDuration words) (PastTime false words)
unfolding duration_of time_size
duration_reads words =
    reads_of (lone_number words) _ (SpellsDuration words) (PastTime false words)
    (λ none. reads_bad _ _
    (λ v s. elim s [
      | inl w ↦ measure_none (codes "s") 3 words w.sign w.size clear_s none w.measure
      | inr w ↦ measure_none (codes "ms") 0 words w.sign w.size clear_ms none w.measure
    ])
    (λ p. elim p [
      | inl q ↦ measure_none (codes "s") 3 words q.sign q.size clear_s none q.measure
      | inr q ↦ measure_none (codes "ms") 0 words q.sign q.size clear_ms none q.measure
    ]))
    (λ n e. elim (cases_Bool (is_keyword (codes "s") n.unit)) [
      | inl has ↦ let none = unit_not (codes "s") (codes "ms") n.unit apart_s has in
          rw has (reads_like (SpellsDuration words) (PastTime false words) (plain_reads (codes "s") 3 100000 words n clear_s e has)
          (λ v w. inl w)
          (λ v s. elim s [ inl w ↦ w | inr w ↦ absurd (no_within (codes "ms") 0 100000 false words n (pos v) clear_ms e none w) ])
          (λ p. inl p)
          (λ p. elim p [ inl q ↦ q | inr q ↦ absurd (no_past (codes "ms") 0 100000 false words n clear_ms e none q) ]))
      | inr none ↦ rw none (elim (cases_Bool (is_keyword (codes "ms") n.unit)) [
        | inl has ↦ rw has (reads_like (SpellsDuration words) (PastTime false words) (plain_reads (codes "ms") 0 100000 words n clear_ms e has)
            (λ v w. inr w)
            (λ v s. elim s [ inr w ↦ w | inl w ↦ absurd (no_within (codes "s") 3 100000 false words n (pos v) clear_s e none w) ])
            (λ p. inr p)
            (λ p. elim p [ inr q ↦ q | inl q ↦ absurd (no_past (codes "s") 3 100000 false words n clear_s e none q) ]))
        | inr neither ↦ rw neither (reads_bad (SpellsDuration words) (PastTime false words)
            (λ v s. elim s [
              | inl w ↦ no_within (codes "s") 3 100000 false words n (pos v) clear_s e none w
              | inr w ↦ no_within (codes "ms") 0 100000 false words n (pos v) clear_ms e neither w
            ])
            (λ p. elim p [
              | inl q ↦ no_past (codes "s") 3 100000 false words n clear_s e none q
              | inr q ↦ no_past (codes "ms") 0 100000 false words n clear_ms e neither q
            ]))
      ])
    ])

-- a number without unit up to a limit
no_number : (unit : List ℕ) (places limit : ℕ) (signed : Bool) (words : List Word) (v : ℤ) → Clear unit → lone_number words ≡ None → IsWithin unit places limit signed words v → ⊥
no_number unit places limit signed words v clear none w = measure_none unit places words w.sign w.size clear none w.measure

no_past_number : (unit : List ℕ) (places limit : ℕ) (signed : Bool) (words : List Word) → Clear unit → lone_number words ≡ None → IsPast unit places limit signed words → ⊥
no_past_number unit places limit signed words clear none p = measure_none unit places words p.sign p.size clear none p.measure

pub z_index_reads : (words : List Word) → Reads (z_index_of words) (SpellsZIndex words) (PastZIndex words)
unfolding z_index_of
z_index_reads words = reads_if (is_lone (codes "auto") words) _ _ (SpellsZIndex words) (PastZIndex words)
    (λ auto. reads_ok _ _ (pos 0) (inl (word_to (codes "auto") words auto, refl))
    (λ v s. elim s [ inl w ↦ sym w.1 | inr w ↦ absurd (number_no_word (codes "auto") [] 0 words w.sign w.size auto w.measure) ])
    (λ p. number_no_word (codes "auto") [] 0 words p.sign p.size auto p.measure))
    (λ other. reads_like (SpellsZIndex words) (PastZIndex words) (numbers (lone_number words) (λ n e. e) (λ e. e))
    (λ v w. inr w) (λ v s. elim s [ inr w ↦ w | inl w ↦ absurd (no_word (codes "auto") words other w.0) ]) (λ p. p) (λ p. p)) where
      numbers : (o : Option Numeral) → ((n : Numeral) → o ≡ Some n → lone_number words ≡ Some n) → (o ≡ None → lone_number words ≡ None)
          → Reads (or_bad o (λ n. cond (length n.unit == 0) (mapped (signed_int n.negative) (size_of 0 true 1000000 n)) (Err BadValue)))
          (IsWithin [] 0 1000000 true words) (IsPast [] 0 1000000 true words)
      numbers None some none = reads_bad _ _ (λ v w. no_number [] 0 1000000 true words v clear_none (none refl) w) (no_past_number [] 0 1000000 true words clear_none (none refl))
      numbers (Some n) some none = let e = some n refl in
          elim (cases_Bool (length n.unit == 0)) [
            | inl is ↦ rw is (signed_reads [] 0 1000000 true words n clear_none e (empty_to n.unit is))
            | inr has ↦ rw has (reads_bad _ _ (λ v w. no_within [] 0 1000000 true words n v clear_none e (unit_none n.unit has) w)
                (no_past [] 0 1000000 true words n clear_none e (unit_none n.unit has)))
          ]

pub count_reads : (words : List Word) → Reads (count_of words) (SpellsCount words) (PastCount words)
unfolding count_of
count_reads words = reads_if (is_lone (codes "infinite") words) _ _ (SpellsCount words) (PastCount words)
    (λ infinite. reads_ok _ _ Infinite (endless (word_to (codes "infinite") words infinite))
    (is_endless infinite)
    (λ p. number_no_word (codes "infinite") [] 3 words p.sign p.size infinite p.measure))
    (λ other. reads_of (lone_number words) _ (SpellsCount words) (PastCount words)
    (λ none. reads_bad _ _ (no_times other (λ n w. no_number [] 3 10000000 false words (pos n) clear_none none w)) (no_past_number [] 3 10000000 false words clear_none none))
    (λ n e. elim (cases_Bool (length n.unit == 0)) [
      | inl is ↦ rw is (reads_like (SpellsCount words) (PastCount words)
          (reads_mapped Times (size_of 3 false 10000000 n) _ _ (plain_reads [] 3 10000000 words n clear_none e (empty_to n.unit is)))
          (λ c s. subst (SpellsCount words) s.2 (times s.0 s.1))
          (of_times other)
          (λ p. p) (λ p. p))
      | inr has ↦ rw has (reads_bad _ _ (no_times other (λ m w. no_within [] 3 10000000 false words n (pos m) clear_none e (unit_none n.unit has) w))
          (no_past [] 3 10000000 false words n clear_none e (unit_none n.unit has)))
    ])) where
      is_endless : is_lone (codes "infinite") words ≡ true → (c : Count) → SpellsCount words c → Infinite ≡ c
      is_endless infinite c (endless w) = refl
      is_endless infinite c (times n w) = absurd (number_no_word (codes "infinite") [] 3 words w.sign w.size infinite w.measure)

      no_times : is_lone (codes "infinite") words ≡ false → ((n : ℕ) → IsWithin [] 3 10000000 false words (pos n) → ⊥) → (c : Count) → SpellsCount words c → ⊥
      no_times other none c (endless w) = no_word (codes "infinite") words other w
      no_times other none c (times n w) = none n w

      of_times : is_lone (codes "infinite") words ≡ false → (c : Count) → SpellsCount words c → Becomes Times (λ m. IsWithin [] 3 10000000 false words (pos m)) c
      of_times other c (endless w) = absurd (no_word (codes "infinite") words other w)
      of_times other c (times n w) = (n, w, refl)

pub percentage_reads : (words : List Word) → Reads (percentage_of words) (SpellsPercentage words) (NonePast words)
unfolding percentage_of
percentage_reads words = reads_of (lone_number words) _ (SpellsPercentage words) (NonePast words)
    (λ none. reads_bad _ _ (λ v s. measure_none (codes "%") 2 words s.sign s.size clear_percent none s.measure) (λ p. p))
    (λ n e. elim (cases_Bool (is_keyword (codes "%") n.unit)) [
      | inl has ↦ rw has (reads_of (amount 2 n) _ (SpellsPercentage words) (NonePast words)
          (λ none. reads_bad _ _ (λ v s. let is = measure_from (codes "%") 2 words s.sign s.size n clear_percent e s.measure in let f = is.amount_is in cc) (λ p. p))
          (λ size some. reads_ok _ _ (signed_int n.negative size)
          (record { sign = sign_of n; size = size; measure = measure_to (codes "%") 2 words n size e has some; value = value_is n size })
          (λ v s. let is = measure_from (codes "%") 2 words s.sign s.size n clear_percent e s.measure in let f = is.amount_is in
          let same : size ≡ s.size = cc in
          ap (λ b. signed_int b size) is.sign_is ∙ signed_is s.sign size ∙ ap (with_sign s.sign) same ∙ sym s.value)
          (λ p. p)))
      | inr none ↦ rw none (reads_bad _ _ (λ v s. let is = measure_from (codes "%") 2 words s.sign s.size n clear_percent e s.measure in let has = is.has_unit in cc) (λ p. p))
    ]) where
      value_is : (n : Numeral) (size : ℕ) → signed_int n.negative size ≡ with_sign (sign_of n) size
      value_is n size = elim (cases_Bool n.negative) [
        | inl is ↦ rw is refl
        | inr other ↦ elim (cases_Bool n.signed) [ inl is ↦ rw (other, is) refl | inr none ↦ rw (other, none) refl ]
      ]

spelled_share : (words : List Word) (n : Numeral) (v : ℕ) → lone_number words ≡ Some n → SpellsOpacity words v → share_of n ≡ Some v
unfolding share_of
spelled_share words n v e s =
    let made = measure_from [] 3 words s.sign s.size n clear_none e s.measure in
    rw (empty_from n.unit made.has_unit, made.amount_is, made.sign_is) (ap (λ t. Some t) (held_back s.sign s.size v s.held))

pub opacity_reads : (words : List Word) → Reads (opacity_of words) (SpellsOpacity words) (NonePast words)
unfolding opacity_of
opacity_reads words = reads_of (lone_number words) _ (SpellsOpacity words) (NonePast words)
    (λ none. reads_bad _ _ (λ v s. measure_none [] 3 words s.sign s.size clear_none none s.measure) (λ p. p))
    (λ n e. reads_of (share_of n) (λ share. Ok share) (SpellsOpacity words) (NonePast words)
    (λ none. reads_bad _ _ (λ v s. let f = spelled_share words n v e s in cc) (λ p. p))
    (λ k some. let parts = share_parts n k some in
    reads_ok _ _ k (record { sign = sign_of n; size = parts.size; measure = measure_to [] 3 words n parts.size e (empty_of n.unit parts.no_unit) parts.amount_is; held = parts.held })
    (λ v s. let f = spelled_share words n v e s in cc) (λ p. p))) where
      empty_of : (unit : List ℕ) → unit ≡ [] → is_keyword [] unit ≡ true
      empty_of unit none = rw none (empty_to [] refl)

pub nothing_to : (words : List Word) → is_nothing words ≡ true → SpellsNothing words
unfolding is_nothing
nothing_to words e = found (lone_number words) (λ n f. f) e where
  found : (o : Option Numeral) → ((n : Numeral) → o ≡ Some n → lone_number words ≡ Some n)
      → elim o [ None ↦ false | Some n ↦ is_zero n && (length n.unit == 0 || is_keyword (codes "px") n.unit) ] ≡ true → SpellsNothing words
  found None is f = absurd (cc)
  found (Some n) is f =
      let both = and_parts (is_zero n) (length n.unit == 0 || is_keyword (codes "px") n.unit) f in
      elim (or_cases (length n.unit == 0) (is_keyword (codes "px") n.unit) both.1) [
        | inl none ↦ inl (nought_to [] words n (is n refl) (empty_to n.unit none) both.0)
        | inr px ↦ inr (nought_to (codes "px") words n (is n refl) px both.0)
      ]

pub nothing_from : (words : List Word) → SpellsNothing words → is_nothing words ≡ true
unfolding is_nothing
nothing_from words s = found (lone_number words) (λ n f. f) (λ f. f) where
  found : (o : Option Numeral) → ((n : Numeral) → o ≡ Some n → lone_number words ≡ Some n) → (o ≡ None → lone_number words ≡ None)
      → elim o [ None ↦ false | Some n ↦ is_zero n && (length n.unit == 0 || is_keyword (codes "px") n.unit) ] ≡ true
  found None some none = absurd (elim s [ inl z ↦ nought_none [] words clear_none (none refl) z | inr z ↦ nought_none (codes "px") words clear_px (none refl) z ])
  found (Some n) some none = elim s [
    | inl z ↦ let both = nought_from [] words n clear_none (some n refl) z in
        and_from (is_zero n) (length n.unit == 0 || is_keyword (codes "px") n.unit) both.1 (or_left (length n.unit == 0) (is_keyword (codes "px") n.unit) (empty_from n.unit both.0))
    | inr z ↦ let both = nought_from (codes "px") words n clear_px (some n refl) z in
        and_from (is_zero n) (length n.unit == 0 || is_keyword (codes "px") n.unit) both.1 (or_right (length n.unit == 0) (is_keyword (codes "px") n.unit) both.0)
  ]
