-- What a word of an item can be.
use Rattle.std.proofs.Common.{ℕ, ℤ, pos, ◌≡◌, ◌⊎◌, ◌&&◌, Bool, true, false, List, [], ◌∷◌, Option, Some, None, Result, Ok, Err, refl, subst, inl, inr, codes}
use Rattle.std.proofs.lemmas.Bool.{and_parts}
use Rattle.page_model.specs.declared.animation.Count.{Count}
use Rattle.page_model.specs.declared.animation.Direction.{Direction}
use Rattle.page_model.specs.declared.animation.Fill.{Fill}
use Rattle.page_model.specs.declared.easing.Easing.{Easing}
use Rattle.style_tokens.specs.declared.token.CssKind.{CssKind}
use Rattle.style_tokens.specs.declared.token.CssKind.TheVariants.{Function, Ident, Number}
use Rattle.css_words.specs.declared.fault.ValueFault.{ValueFault}
use Rattle.css_words.specs.declared.fault.ValueFault.TheVariants.{BadValue, OverLimit, NoMemory}
use Rattle.css_words.specs.Keywords.{is_keyword}
use Rattle.css_easings.specs.EasingWords.{easing_words}
use Rattle.css_items.specs.ItemWords.{direction_words, fill_words, play_words}
use Rattle.css_quantities.specs.Quantities.{time_of}
use Rattle.css_values.specs.ShorthandGrammar.{is_value}
use Rattle.css_words.specs.Words.{Word}
use Rattle.css_easing_laws.specs.SpelledEasings.{SpellsEasing, PastEasing}
use Rattle.css_value_laws.specs.SpelledLists.{IsMarked}
use Rattle.css_word_laws.specs.SpelledNumbers.{Sign, word, IsMeasure}
use Rattle.css_word_laws.specs.SpelledWords.{IsWord, IsEntry, SpellsKeyword}
use Rattle.css_quantity_laws.specs.SpelledQuantities.{IsWithin, IsPast, SpellsTime, PastTime, SpellsDuration, SpellsCount, PastCount}
use Rattle.css_quantity_laws.specs.SpelledQuantities.SpellsCount.{endless, times}
use Rattle.css_value_laws.specs.SpelledNames.{SpellsName}
use Rattle.css_word_laws.proofs.KeywordLemmas.{same_bytes, same_kind}
use Rattle.css_quantity_laws.proofs.MeasureLemmas.{Clear, lone_from, measure_from}
use Rattle.css_word_laws.proofs.NumberLemmas.{made}
use Rattle.css_quantity_laws.proofs.QuantityLemmas.{other_unit, clear_s, clear_ms, clear_none, time_reads}
use Rattle.css_word_laws.proofs.Readings.{Reads}
use Rattle.css_word_laws.proofs.WordLemmas.{absent, entry_absent}

-- the token that stands first
pub record First (words : List Word) (kind : CssKind) : Type 0 where
  pub bytes : List ℕ
  pub rest : List Word
  pub split : words ≡ word kind bytes ∷ rest

first_apart : (words : List Word) (j k : CssKind) → First words j → First words k → j ≡ k
first_apart words j k a b = same_kind words j k a.bytes b.bytes a.rest b.rest a.split b.split

time_first : (signed : Bool) (words : List Word) (m : Option ℤ) → IsMarked (SpellsTime signed) (PastTime signed) words m → First words Number
time_first signed words (Some v) s = elim s [
  | inl w ↦ record { bytes = w.measure.bytes; rest = []; split = w.measure.alone }
  | inr w ↦ record { bytes = w.measure.bytes; rest = []; split = w.measure.alone }
]
time_first signed words None p = elim p [
  | inl w ↦ record { bytes = w.measure.bytes; rest = []; split = w.measure.alone }
  | inr w ↦ record { bytes = w.measure.bytes; rest = []; split = w.measure.alone }
]

easing_first : (words : List Word) (m : Option Easing) → IsMarked SpellsEasing PastEasing words m → First words Ident ⊎ First words Function
easing_first words (Some e) s = elim s [
  | inl k ↦ inl (record { bytes = k.bytes; rest = []; split = k.alone })
  | inr more ↦ elim more [
    | inl t ↦ inr (record { bytes = t.steps.name; rest = word Number t.steps.number ∷ t.steps.tail; split = t.steps.joined })
    | inr c ↦ inr (record { bytes = c.curve.name; rest = _; split = c.curve.joined })
  ]
]
easing_first words None p = elim p [
  | inl t ↦ inr (record { bytes = t.steps.name; rest = word Number t.steps.number ∷ t.steps.tail; split = t.steps.joined })
  | inr c ↦ inr (record { bytes = c.curve.name; rest = _; split = c.curve.joined })
]

pub easing_no_time : (signed : Bool) (words : List Word) (m : Option Easing) (n : Option ℤ) → IsMarked SpellsEasing PastEasing words m
    → IsMarked (SpellsTime signed) (PastTime signed) words n → ⊥
easing_no_time signed words m n e t = elim (easing_first words m e) [
  | inl f ↦ let same : Ident ≡ Number = first_apart words Ident Number f (time_first signed words n t) in cc
  | inr f ↦ let same : Function ≡ Number = first_apart words Function Number f (time_first signed words n t) in cc
]

pub ident_no_time : (signed : Bool) (words : List Word) (bytes : List ℕ) (n : Option ℤ) → words ≡ word Ident bytes ∷ []
    → IsMarked (SpellsTime signed) (PastTime signed) words n → ⊥
ident_no_time signed words bytes n e t =
    let same : Ident ≡ Number = first_apart words Ident Number (record { bytes = bytes; rest = []; split = e }) (time_first signed words n t) in cc

-- a number has one unit
units_apart : (a b : List ℕ) (p q : ℕ) (words : List Word) (s t : Sign) (x y : ℕ) → Clear a → Clear b → is_keyword a b ≡ false → IsMeasure a p words s x
    → IsMeasure b q words t y → ⊥
units_apart a b p q words s t x y clear_a clear_b differ first second =
    let read = lone_from words s first.whole first.fraction first.written first.bytes first.alone first.number (clear_a first.written first.has_unit) in
    let n = made s first.whole first.fraction first.written in
    let other = measure_from b q words t y n clear_b read second in
    other_unit a b first.written differ first.has_unit other.has_unit

s_apart : is_keyword (codes "s") [] ≡ false
unfolding is_keyword
s_apart = refl

ms_apart : is_keyword (codes "ms") [] ≡ false
unfolding is_keyword
ms_apart = refl

time_no_measure : (signed : Bool) (words : List Word) (n : Option ℤ) (sign : Sign) (size : ℕ) → IsMarked (SpellsTime signed) (PastTime signed) words n
    → IsMeasure [] 3 words sign size → ⊥
time_no_measure signed words (Some v) sign size t is = elim t [
  | inl w ↦ units_apart (codes "s") [] 3 3 words w.sign sign w.size size clear_s clear_none s_apart w.measure is
  | inr w ↦ units_apart (codes "ms") [] 0 3 words w.sign sign w.size size clear_ms clear_none ms_apart w.measure is
]
time_no_measure signed words None sign size t is = elim t [
  | inl w ↦ units_apart (codes "s") [] 3 3 words w.sign sign w.size size clear_s clear_none s_apart w.measure is
  | inr w ↦ units_apart (codes "ms") [] 0 3 words w.sign sign w.size size clear_ms clear_none ms_apart w.measure is
]

-- a count is `infinite` or a number
pub record IsEndless (words : List Word) : Type 0 where
  pub is : IsWord (codes "infinite") words

pub record IsNumeric (words : List Word) : Type 0 where
  pub sign : Sign
  pub size : ℕ
  pub measure : IsMeasure [] 3 words sign size

count_sort : (words : List Word) (m : Option Count) → IsMarked SpellsCount PastCount words m → IsEndless words ⊎ IsNumeric words
count_sort words (Some c) (endless w) = inl (record { is = w })
count_sort words (Some c) (times n w) = inr (record { sign = w.sign; size = w.size; measure = w.measure })
count_sort words None p = inr (record { sign = p.sign; size = p.size; measure = p.measure })

pub count_no_time : (signed : Bool) (words : List Word) (m : Option Count) (n : Option ℤ) → IsMarked SpellsCount PastCount words m
    → IsMarked (SpellsTime signed) (PastTime signed) words n → ⊥
count_no_time signed words m n c t = elim (count_sort words m c) [
  | inl w ↦ ident_no_time signed words w.is.bytes n w.is.alone t
  | inr w ↦ time_no_measure signed words n w.sign w.size t w.measure
]

infinite_is_no_easing : absent (codes "infinite") easing_words ≡ true
unfolding easing_words is_keyword
infinite_is_no_easing = refl

-- no word of the one table is one of the other
abbrev are_apart : {A B : Type 0} → List (List ℕ × A) → List (List ℕ × B) → Bool
are_apart [] other = true
are_apart (entry ∷ table) other = absent entry.0 other && are_apart table other

entries_apart : {A B : Type 0} (table : List (List ℕ × A)) (other : List (List ℕ × B)) (bytes : List ℕ) (a : A) (b : B) → are_apart table other ≡ true
    → IsEntry table bytes a → IsEntry other bytes b → ⊥
entries_apart [] other bytes a b apart x y = x
entries_apart (entry ∷ table) other bytes a b apart x y =
    let both = and_parts (absent entry.0 other) (are_apart table other) apart in
    elim x [ inl here ↦ entry_absent other bytes entry.0 b here.0 both.0 y | inr later ↦ entries_apart table other bytes a b both.1 later y ]

keyword_no_keyword : {A B : Type 0} (table : List (List ℕ × A)) (other : List (List ℕ × B)) (words : List Word) (a : A) (b : B) → are_apart table other ≡ true
    → SpellsKeyword table words a → SpellsKeyword other words b → ⊥
keyword_no_keyword table other words a b apart x y =
    let same = same_bytes words Ident Ident x.bytes y.bytes [] [] x.alone y.alone in
    entries_apart table other y.bytes a b apart (subst (λ t. IsEntry table t a) same x.entry) y.entry

-- a keyword of a table without easings is no easing
keyword_no_easing : {A : Type 0} (table : List (List ℕ × A)) (words : List Word) (a : A) (m : Option Easing) → are_apart table easing_words ≡ true
    → SpellsKeyword table words a → IsMarked SpellsEasing PastEasing words m → ⊥
keyword_no_easing table words a (Some e) apart k s = elim s [
  | inl other ↦ keyword_no_keyword table easing_words words a e apart k other
  | inr more ↦ let same : Ident ≡ Function = elim more [
    | inl t ↦ same_kind words Ident Function k.bytes t.steps.name [] _ k.alone t.steps.joined
    | inr c ↦ same_kind words Ident Function k.bytes c.curve.name [] _ k.alone c.curve.joined
  ] in cc
]
keyword_no_easing table words a None apart k p =
    let same : Ident ≡ Function = elim p [
      | inl t ↦ same_kind words Ident Function k.bytes t.steps.name [] _ k.alone t.steps.joined
      | inr c ↦ same_kind words Ident Function k.bytes c.curve.name [] _ k.alone c.curve.joined
    ] in cc

-- `infinite` as a table
abbrev infinite_words : List (List ℕ × Bool)
infinite_words = (codes "infinite", true) ∷ []

endless_keyword : (words : List Word) → IsEndless words → SpellsKeyword infinite_words words true
endless_keyword words w = record { bytes = w.is.bytes; alone = w.is.alone; entry = inl (w.is.is, refl) }

infinite_no_easing : are_apart infinite_words easing_words ≡ true
unfolding easing_words is_keyword
infinite_no_easing = refl

number_first : (words : List Word) → IsNumeric words → First words Number
number_first words w = record { bytes = w.measure.bytes; rest = []; split = w.measure.alone }

pub count_no_easing : (words : List Word) (m : Option Count) (n : Option Easing) → IsMarked SpellsCount PastCount words m → IsMarked SpellsEasing PastEasing words n → ⊥
count_no_easing words m n c e = elim (count_sort words m c) [
  | inl w ↦ keyword_no_easing infinite_words words true n infinite_no_easing (endless_keyword words w) e
  | inr w ↦ elim (easing_first words n e) [
    | inl f ↦ let same : Ident ≡ Number = first_apart words Ident Number f (number_first words w) in cc
    | inr f ↦ let same : Function ≡ Number = first_apart words Function Number f (number_first words w) in cc
  ]
]

keyword_no_count : {A : Type 0} (table : List (List ℕ × A)) (words : List Word) (a : A) (m : Option Count) → are_apart table infinite_words ≡ true
    → SpellsKeyword table words a → IsMarked SpellsCount PastCount words m → ⊥
keyword_no_count table words a m apart k c = elim (count_sort words m c) [
  | inl w ↦ keyword_no_keyword table infinite_words words a true apart k (endless_keyword words w)
  | inr w ↦ let same : Ident ≡ Number = first_apart words Ident Number (record { bytes = k.bytes; rest = []; split = k.alone }) (number_first words w) in cc
]

direction_easing : are_apart direction_words easing_words ≡ true
unfolding direction_words easing_words is_keyword
direction_easing = refl

direction_infinite : are_apart direction_words infinite_words ≡ true
unfolding direction_words is_keyword
direction_infinite = refl

fill_easing : are_apart fill_words easing_words ≡ true
unfolding fill_words easing_words is_keyword
fill_easing = refl

fill_infinite : are_apart fill_words infinite_words ≡ true
unfolding fill_words is_keyword
fill_infinite = refl

fill_direction : are_apart fill_words direction_words ≡ true
unfolding fill_words direction_words is_keyword
fill_direction = refl

play_easing : are_apart play_words easing_words ≡ true
unfolding play_words easing_words is_keyword
play_easing = refl

play_infinite : are_apart play_words infinite_words ≡ true
unfolding play_words is_keyword
play_infinite = refl

play_direction : are_apart play_words direction_words ≡ true
unfolding play_words direction_words is_keyword
play_direction = refl

play_fill : are_apart play_words fill_words ≡ true
unfolding play_words fill_words is_keyword
play_fill = refl

-- a direction, a fill mode and a play state are nothing that stands before them
pub direction_no_easing : (words : List Word) (a : Direction) (m : Option Easing) → SpellsKeyword direction_words words a → IsMarked SpellsEasing PastEasing words m → ⊥
direction_no_easing words a m k e = keyword_no_easing direction_words words a m direction_easing k e

pub direction_no_count : (words : List Word) (a : Direction) (m : Option Count) → SpellsKeyword direction_words words a → IsMarked SpellsCount PastCount words m → ⊥
direction_no_count words a m k c = keyword_no_count direction_words words a m direction_infinite k c

pub fill_no_easing : (words : List Word) (a : Fill) (m : Option Easing) → SpellsKeyword fill_words words a → IsMarked SpellsEasing PastEasing words m → ⊥
fill_no_easing words a m k e = keyword_no_easing fill_words words a m fill_easing k e

pub fill_no_count : (words : List Word) (a : Fill) (m : Option Count) → SpellsKeyword fill_words words a → IsMarked SpellsCount PastCount words m → ⊥
fill_no_count words a m k c = keyword_no_count fill_words words a m fill_infinite k c

pub fill_no_direction : (words : List Word) (a : Fill) (b : Direction) → SpellsKeyword fill_words words a → SpellsKeyword direction_words words b → ⊥
fill_no_direction words a b x y = keyword_no_keyword fill_words direction_words words a b fill_direction x y

pub play_no_easing : (words : List Word) (a : Bool) (m : Option Easing) → SpellsKeyword play_words words a → IsMarked SpellsEasing PastEasing words m → ⊥
play_no_easing words a m k e = keyword_no_easing play_words words a m play_easing k e

pub play_no_count : (words : List Word) (a : Bool) (m : Option Count) → SpellsKeyword play_words words a → IsMarked SpellsCount PastCount words m → ⊥
play_no_count words a m k c = keyword_no_count play_words words a m play_infinite k c

pub play_no_direction : (words : List Word) (a : Bool) (b : Direction) → SpellsKeyword play_words words a → SpellsKeyword direction_words words b → ⊥
play_no_direction words a b x y = keyword_no_keyword play_words direction_words words a b play_direction x y

pub play_no_fill : (words : List Word) (a : Bool) (b : Fill) → SpellsKeyword play_words words a → SpellsKeyword fill_words words b → ⊥
play_no_fill words a b x y = keyword_no_keyword play_words fill_words words a b play_fill x y

pub name_no_time : (signed : Bool) (words : List Word) (v : Option (List ℕ)) (n : Option ℤ) → SpellsName words v → IsMarked (SpellsTime signed) (PastTime signed) words n → ⊥
name_no_time signed words None n s t = ident_no_time signed words s.bytes n s.alone t
name_no_time signed words (Some bytes) n s t = ident_no_time signed words bytes n s.alone t

-- whether a word is read as a time
pub is_time : (words : List Word) (m : Option ℤ) → IsMarked (SpellsTime true) (PastTime true) words m → is_value (time_of true words) ≡ true
is_time words (Some v) s = rw ((time_reads true words).ok_from v s) refl
is_time words None p = rw ((time_reads true words).past_from p) refl

pub no_time : (words : List Word) → ((m : Option ℤ) → IsMarked (SpellsTime true) (PastTime true) words m → ⊥) → is_value (time_of true words) ≡ false
no_time words none = by (time_of true words) (time_reads true words) where
  by : (r : Result ℤ ValueFault) → Reads r (SpellsTime true words) (PastTime true words) → is_value r ≡ false
  by (Ok v) reads = absurd (none (Some v) (reads.ok_to v refl))
  by (Err OverLimit) reads = absurd (none None (reads.past_to refl))
  by (Err BadValue) reads = refl
  by (Err NoMemory) reads = absurd (reads.kept refl)

-- a duration is a time
within_true : (unit : List ℕ) (places limit : ℕ) (words : List Word) (v : ℤ) → IsWithin unit places limit false words v → IsWithin unit places limit true words v
within_true unit places limit words v w = record { sign = w.sign; size = w.size; measure = w.measure; value = w.value; may = λ e. absurd (cc); small = w.small }

past_true : (unit : List ℕ) (places limit : ℕ) (words : List Word) → IsPast unit places limit false words → IsPast unit places limit true words
past_true unit places limit words w = record { sign = w.sign; size = w.size; measure = w.measure; may = λ e. absurd (cc); large = w.large }

pub duration_time : (words : List Word) (m : Option ℕ) → IsMarked SpellsDuration (PastTime false) words m → is_value (time_of true words) ≡ true
duration_time words (Some n) s = is_time words (Some (pos n)) (elim s [ inl w ↦ inl (within_true (codes "s") 3 100000 words (pos n) w) | inr w ↦ inr (within_true (codes "ms") 0 100000 words (pos n) w) ])
duration_time words None p = is_time words None (elim p [ inl w ↦ inl (past_true (codes "s") 3 100000 words w) | inr w ↦ inr (past_true (codes "ms") 0 100000 words w) ])
