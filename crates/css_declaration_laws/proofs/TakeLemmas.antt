-- How each slot is taken.
use Rattle.std.proofs.Common.{ℕ, ℤ, pos, ◌≡◌, ◌∙◌, Bool, true, false, List, Option, Some, None, Result, Ok, Err, refl, ap, sym, inl, inr}
use Rattle.std.proofs.lemmas.Bool.{cases_Bool}
use Rattle.page_model.specs.declared.animation.Count.{Count}
use Rattle.page_model.specs.declared.animation.Count.TheVariants.{Infinite}
use Rattle.page_model.specs.declared.animation.Direction.{Direction}
use Rattle.page_model.specs.declared.animation.Fill.{Fill}
use Rattle.page_model.specs.declared.easing.Easing.{Easing}
use Rattle.page_model.specs.declared.easing.Easing.TheVariants.{Linear}
use Rattle.css_words.specs.declared.fault.ValueFault.{ValueFault}
use Rattle.css_words.specs.declared.fault.ValueFault.TheVariants.{BadValue, OverLimit, NoMemory}
use Rattle.css_easings.specs.Easings.{easing_of}
use Rattle.css_items.specs.ItemWords.{direction_words, fill_words, play_words}
use Rattle.css_items.specs.Names.{keyword_of, name_of}
use Rattle.css_quantities.specs.Quantities.{count_of, duration_of, time_of}
use Rattle.css_values.specs.ShorthandGrammar.{Slots, taken, chosen, take_time, take_easing, take_count, take_direction, take_fill, take_play, take_name}
use Rattle.css_words.specs.Words.{Word}
use Rattle.css_easing_laws.specs.SpelledEasings.{SpellsEasing, PastEasing}
use Rattle.css_value_laws.specs.SpelledLists.{IsMarked}
use Rattle.css_quantity_laws.specs.SpelledQuantities.{SpellsTime, PastTime, SpellsDuration, SpellsCount, PastCount}
use Rattle.css_declaration_laws.specs.SpelledShorthand.{Part, is_taken, IsPart, MayTake}
use Rattle.css_declaration_laws.specs.SpelledShorthand.Part.{duration, delay, easing, count, direction, fill, play, name}
use Rattle.css_declaration_laws.specs.SpelledShorthand.Slot.{duration_slot, delay_slot, easing_slot, count_slot, direction_slot, fill_slot, play_slot, name_slot}
use Rattle.css_word_laws.specs.SpelledWords.{SpellsKeyword}
use Rattle.css_value_laws.specs.SpelledNames.{SpellsName}
use Rattle.css_word_laws.specs.ValueLaws.{NonePast}
use Rattle.css_word_laws.proofs.Readings.{Reads}
use Rattle.css_declaration_laws.proofs.SlotLemmas.{put, held, has_duration, has_delay, has_easing, has_count, has_direction, has_fill, has_play, has_name}
use Rattle.css_easing_laws.proofs.EasingReadings.{easing_reads}
use Rattle.css_quantity_laws.proofs.QuantityLemmas.{count_reads, duration_reads, time_reads}
use Rattle.css_value_laws.proofs.TableLemmas.{directions_differ, fills_differ, plays_differ}
use Rattle.css_value_laws.proofs.NameLemmas.{keyword_reads, name_reads}

-- what was taken
pub record Mark {A : Type 0} (S : List Word → A → Type 0) (P : List Word → Type 0) (w : List Word) (into : A → Slots) (past next : Slots) : Type 0 where
  pub m : Option A
  pub is : IsMarked S P w m
  pub some : (v : A) → m ≡ Some v → next ≡ into v
  pub none : m ≡ None → next ≡ past

some_same : {A : Type 0} {x y : A} → Some x ≡ Some y → x ≡ y
some_same e = cc

taken_to : {A : Type 0} (r : Result A ValueFault) (S : List Word → A → Type 0) (P : List Word → Type 0) (w : List Word) (into : A → Slots) (past next : Slots)
    → Reads r (S w) (P w) → taken into past r ≡ Some next → Mark S P w into past next
taken_to (Ok v) S P w into past next reads e = record {
  m = Some v;
  is = reads.ok_to v refl;
  some = λ x f. sym (some_same e) ∙ ap into (some_same f);
  none = λ f. absurd (cc);
}
taken_to (Err OverLimit) S P w into past next reads e = record {
  m = None;
  is = reads.past_to refl;
  some = λ x f. absurd (cc);
  none = λ f. sym (some_same e);
}
taken_to (Err BadValue) S P w into past next reads e = absurd (cc)
taken_to (Err NoMemory) S P w into past next reads e = absurd (cc)

chosen_to : {A : Type 0} (r : Result A ValueFault) (S : List Word → A → Type 0) (w : List Word) (into : A → Slots) (next : Slots)
    → Reads r (S w) (NonePast w) → chosen into r ≡ Some next → (v : A) × (S w v) × (next ≡ into v)
chosen_to (Ok v) S w into next reads e = (v, reads.ok_to v refl, sym (some_same e))
chosen_to (Err f) S w into next reads e = absurd (cc)

pub easing_from : (before : List Part) (w : List Word) (m : Option Easing) → is_taken easing_slot before ≡ false → IsMarked SpellsEasing PastEasing w m
    → take_easing (held before) w ≡ Some (put (easing m) (held before))
unfolding take_easing
easing_from before w (Some v) open_one is = rw (has_easing before ∙ open_one, (easing_reads w).ok_from v is) refl
easing_from before w None open_one is = rw (has_easing before ∙ open_one, (easing_reads w).past_from is) refl

pub easing_to : (before : List Part) (w : List Word) (next : Slots) → take_easing (held before) w ≡ Some next
    → (m : Option Easing) × (IsMarked SpellsEasing PastEasing w m) × (is_taken easing_slot before ≡ false) × (next ≡ put (easing m) (held before))
unfolding take_easing
easing_to before w next e = elim (cases_Bool (is_taken easing_slot before)) [
  | inl full ↦ absurd (let f : None ≡ Some next = rw (has_easing before ∙ full) at e in cc)
  | inr open_one ↦
      let f = rw (has_easing before ∙ open_one) at e in
      let mark = taken_to (easing_of w) SpellsEasing PastEasing w _ _ next (easing_reads w) f in
      by mark.m mark.is open_one mark.some mark.none
] where
  by : (m : Option Easing) → IsMarked SpellsEasing PastEasing w m → is_taken easing_slot before ≡ false
      → ((v : Easing) → m ≡ Some v → next ≡ record (held before) { easing = Some v })
      → (m ≡ None → next ≡ record (held before) { easing = Some Linear; over = true })
      → (m : Option Easing) × (IsMarked SpellsEasing PastEasing w m) × (is_taken easing_slot before ≡ false) × (next ≡ put (easing m) (held before))
  by (Some v) is open_one some none = (Some v, is, open_one, some v refl)
  by None is open_one some none = (None, is, open_one, none refl)

pub no_easing : (before : List Part) (w : List Word) → ((m : Option Easing) → IsMarked SpellsEasing PastEasing w m → is_taken easing_slot before ≡ true)
    → take_easing (held before) w ≡ None
no_easing before w full = by (take_easing (held before) w) (λ next e. easing_to before w next e) where
  by : (o : Option Slots) → ((next : Slots) → o ≡ Some next → (m : Option Easing) × (IsMarked SpellsEasing PastEasing w m) × (is_taken easing_slot before ≡ false) × (next ≡ put (easing m) (held before)))
      → o ≡ None
  by None found = refl
  by (Some next) found = absurd (let is = found next refl in let e = full is.0 is.1 in let f = is.2 in cc)

pub easing_full : (before : List Part) (w : List Word) (m : Option Easing) → take_easing (held before) w ≡ None → IsMarked SpellsEasing PastEasing w m → is_taken easing_slot before ≡ true
easing_full before w m e is = elim (cases_Bool (is_taken easing_slot before)) [ inl full ↦ full | inr open_one ↦ absurd (let f = easing_from before w m open_one is in cc) ]

pub count_from : (before : List Part) (w : List Word) (m : Option Count) → is_taken count_slot before ≡ false → IsMarked SpellsCount PastCount w m
    → take_count (held before) w ≡ Some (put (count m) (held before))
unfolding take_count
count_from before w (Some v) open_one is = rw (has_count before ∙ open_one, (count_reads w).ok_from v is) refl
count_from before w None open_one is = rw (has_count before ∙ open_one, (count_reads w).past_from is) refl

pub count_to : (before : List Part) (w : List Word) (next : Slots) → take_count (held before) w ≡ Some next
    → (m : Option Count) × (IsMarked SpellsCount PastCount w m) × (is_taken count_slot before ≡ false) × (next ≡ put (count m) (held before))
unfolding take_count
count_to before w next e = elim (cases_Bool (is_taken count_slot before)) [
  | inl full ↦ absurd (let f : None ≡ Some next = rw (has_count before ∙ full) at e in cc)
  | inr open_one ↦
      let f = rw (has_count before ∙ open_one) at e in
      let mark = taken_to (count_of w) SpellsCount PastCount w _ _ next (count_reads w) f in
      by mark.m mark.is open_one mark.some mark.none
] where
  by : (m : Option Count) → IsMarked SpellsCount PastCount w m → is_taken count_slot before ≡ false
      → ((v : Count) → m ≡ Some v → next ≡ record (held before) { count = Some v })
      → (m ≡ None → next ≡ record (held before) { count = Some Infinite; over = true })
      → (m : Option Count) × (IsMarked SpellsCount PastCount w m) × (is_taken count_slot before ≡ false) × (next ≡ put (count m) (held before))
  by (Some v) is open_one some none = (Some v, is, open_one, some v refl)
  by None is open_one some none = (None, is, open_one, none refl)

pub no_count : (before : List Part) (w : List Word) → ((m : Option Count) → IsMarked SpellsCount PastCount w m → is_taken count_slot before ≡ true)
    → take_count (held before) w ≡ None
no_count before w full = by (take_count (held before) w) (λ next e. count_to before w next e) where
  by : (o : Option Slots) → ((next : Slots) → o ≡ Some next → (m : Option Count) × (IsMarked SpellsCount PastCount w m) × (is_taken count_slot before ≡ false) × (next ≡ put (count m) (held before)))
      → o ≡ None
  by None found = refl
  by (Some next) found = absurd (let is = found next refl in let e = full is.0 is.1 in let f = is.2 in cc)

pub count_full : (before : List Part) (w : List Word) (m : Option Count) → take_count (held before) w ≡ None → IsMarked SpellsCount PastCount w m → is_taken count_slot before ≡ true
count_full before w m e is = elim (cases_Bool (is_taken count_slot before)) [ inl full ↦ full | inr open_one ↦ absurd (let f = count_from before w m open_one is in cc) ]

pub direction_from : (before : List Part) (w : List Word) (v : Direction) → is_taken direction_slot before ≡ false → SpellsKeyword direction_words w v
    → take_direction (held before) w ≡ Some (put (direction v) (held before))
unfolding take_direction
direction_from before w v open_one is = rw (has_direction before ∙ open_one, (keyword_reads direction_words directions_differ w).ok_from v is) refl

pub direction_to : (before : List Part) (w : List Word) (next : Slots) → take_direction (held before) w ≡ Some next
    → (v : Direction) × (SpellsKeyword direction_words w v) × (is_taken direction_slot before ≡ false) × (next ≡ put (direction v) (held before))
unfolding take_direction
direction_to before w next e = elim (cases_Bool (is_taken direction_slot before)) [
  | inl full ↦ absurd (let f : None ≡ Some next = rw (has_direction before ∙ full) at e in cc)
  | inr open_one ↦
      let f = rw (has_direction before ∙ open_one) at e in
      let found = chosen_to (keyword_of direction_words w) (SpellsKeyword direction_words) w _ next (keyword_reads direction_words directions_differ w) f in
      (found.0, found.1, open_one, found.2)
]

pub no_direction : (before : List Part) (w : List Word) → ((v : Direction) → SpellsKeyword direction_words w v → is_taken direction_slot before ≡ true) → take_direction (held before) w ≡ None
no_direction before w full = by (take_direction (held before) w) (λ next e. direction_to before w next e) where
  by : (o : Option Slots) → ((next : Slots) → o ≡ Some next → (v : Direction) × (SpellsKeyword direction_words w v) × (is_taken direction_slot before ≡ false) × (next ≡ put (direction v) (held before)))
      → o ≡ None
  by None found = refl
  by (Some next) found = absurd (let is = found next refl in let e = full is.0 is.1 in let f = is.2 in cc)

pub direction_full : (before : List Part) (w : List Word) (v : Direction) → take_direction (held before) w ≡ None → SpellsKeyword direction_words w v → is_taken direction_slot before ≡ true
direction_full before w v e is = elim (cases_Bool (is_taken direction_slot before)) [ inl full ↦ full | inr open_one ↦ absurd (let f = direction_from before w v open_one is in cc) ]

pub fill_from : (before : List Part) (w : List Word) (v : Fill) → is_taken fill_slot before ≡ false → SpellsKeyword fill_words w v
    → take_fill (held before) w ≡ Some (put (fill v) (held before))
unfolding take_fill
fill_from before w v open_one is = rw (has_fill before ∙ open_one, (keyword_reads fill_words fills_differ w).ok_from v is) refl

pub fill_to : (before : List Part) (w : List Word) (next : Slots) → take_fill (held before) w ≡ Some next
    → (v : Fill) × (SpellsKeyword fill_words w v) × (is_taken fill_slot before ≡ false) × (next ≡ put (fill v) (held before))
unfolding take_fill
fill_to before w next e = elim (cases_Bool (is_taken fill_slot before)) [
  | inl full ↦ absurd (let f : None ≡ Some next = rw (has_fill before ∙ full) at e in cc)
  | inr open_one ↦
      let f = rw (has_fill before ∙ open_one) at e in
      let found = chosen_to (keyword_of fill_words w) (SpellsKeyword fill_words) w _ next (keyword_reads fill_words fills_differ w) f in
      (found.0, found.1, open_one, found.2)
]

pub no_fill : (before : List Part) (w : List Word) → ((v : Fill) → SpellsKeyword fill_words w v → is_taken fill_slot before ≡ true) → take_fill (held before) w ≡ None
no_fill before w full = by (take_fill (held before) w) (λ next e. fill_to before w next e) where
  by : (o : Option Slots) → ((next : Slots) → o ≡ Some next → (v : Fill) × (SpellsKeyword fill_words w v) × (is_taken fill_slot before ≡ false) × (next ≡ put (fill v) (held before)))
      → o ≡ None
  by None found = refl
  by (Some next) found = absurd (let is = found next refl in let e = full is.0 is.1 in let f = is.2 in cc)

pub fill_full : (before : List Part) (w : List Word) (v : Fill) → take_fill (held before) w ≡ None → SpellsKeyword fill_words w v → is_taken fill_slot before ≡ true
fill_full before w v e is = elim (cases_Bool (is_taken fill_slot before)) [ inl full ↦ full | inr open_one ↦ absurd (let f = fill_from before w v open_one is in cc) ]

pub play_from : (before : List Part) (w : List Word) (v : Bool) → is_taken play_slot before ≡ false → SpellsKeyword play_words w v
    → take_play (held before) w ≡ Some (put (play v) (held before))
unfolding take_play
play_from before w v open_one is = rw (has_play before ∙ open_one, (keyword_reads play_words plays_differ w).ok_from v is) refl

pub play_to : (before : List Part) (w : List Word) (next : Slots) → take_play (held before) w ≡ Some next
    → (v : Bool) × (SpellsKeyword play_words w v) × (is_taken play_slot before ≡ false) × (next ≡ put (play v) (held before))
unfolding take_play
play_to before w next e = elim (cases_Bool (is_taken play_slot before)) [
  | inl full ↦ absurd (let f : None ≡ Some next = rw (has_play before ∙ full) at e in cc)
  | inr open_one ↦
      let f = rw (has_play before ∙ open_one) at e in
      let found = chosen_to (keyword_of play_words w) (SpellsKeyword play_words) w _ next (keyword_reads play_words plays_differ w) f in
      (found.0, found.1, open_one, found.2)
]

pub no_play : (before : List Part) (w : List Word) → ((v : Bool) → SpellsKeyword play_words w v → is_taken play_slot before ≡ true) → take_play (held before) w ≡ None
no_play before w full = by (take_play (held before) w) (λ next e. play_to before w next e) where
  by : (o : Option Slots) → ((next : Slots) → o ≡ Some next → (v : Bool) × (SpellsKeyword play_words w v) × (is_taken play_slot before ≡ false) × (next ≡ put (play v) (held before)))
      → o ≡ None
  by None found = refl
  by (Some next) found = absurd (let is = found next refl in let e = full is.0 is.1 in let f = is.2 in cc)

pub play_full : (before : List Part) (w : List Word) (v : Bool) → take_play (held before) w ≡ None → SpellsKeyword play_words w v → is_taken play_slot before ≡ true
play_full before w v e is = elim (cases_Bool (is_taken play_slot before)) [ inl full ↦ full | inr open_one ↦ absurd (let f = play_from before w v open_one is in cc) ]

pub name_from : (before : List Part) (w : List Word) (v : (Option (List ℕ))) → is_taken name_slot before ≡ false → SpellsName w v
    → take_name (held before) w ≡ Some (put (name v) (held before))
unfolding take_name
name_from before w v open_one is = rw (has_name before ∙ open_one, (name_reads w).ok_from v is) refl

pub name_to : (before : List Part) (w : List Word) (next : Slots) → take_name (held before) w ≡ Some next
    → (v : (Option (List ℕ))) × (SpellsName w v) × (is_taken name_slot before ≡ false) × (next ≡ put (name v) (held before))
unfolding take_name
name_to before w next e = elim (cases_Bool (is_taken name_slot before)) [
  | inl full ↦ absurd (let f : None ≡ Some next = rw (has_name before ∙ full) at e in cc)
  | inr open_one ↦
      let f = rw (has_name before ∙ open_one) at e in
      let found = chosen_to (name_of w) SpellsName w _ next (name_reads w) f in
      (found.0, found.1, open_one, found.2)
]

pub no_name : (before : List Part) (w : List Word) → ((v : (Option (List ℕ))) → SpellsName w v → is_taken name_slot before ≡ true) → take_name (held before) w ≡ None
no_name before w full = by (take_name (held before) w) (λ next e. name_to before w next e) where
  by : (o : Option Slots) → ((next : Slots) → o ≡ Some next → (v : (Option (List ℕ))) × (SpellsName w v) × (is_taken name_slot before ≡ false) × (next ≡ put (name v) (held before)))
      → o ≡ None
  by None found = refl
  by (Some next) found = absurd (let is = found next refl in let e = full is.0 is.1 in let f = is.2 in cc)

pub name_full : (before : List Part) (w : List Word) (v : (Option (List ℕ))) → take_name (held before) w ≡ None → SpellsName w v → is_taken name_slot before ≡ true
name_full before w v e is = elim (cases_Bool (is_taken name_slot before)) [ inl full ↦ full | inr open_one ↦ absurd (let f = name_from before w v open_one is in cc) ]

pub duration_from : (before : List Part) (w : List Word) (m : Option ℕ) → is_taken duration_slot before ≡ false → IsMarked SpellsDuration (PastTime false) w m
    → take_time (held before) w ≡ Some (put (duration m) (held before))
unfolding take_time
duration_from before w (Some n) open_one is = rw (has_duration before ∙ open_one, (duration_reads w).ok_from n is) refl
duration_from before w None open_one is = rw (has_duration before ∙ open_one, (duration_reads w).past_from is) refl

pub delay_from : (before : List Part) (w : List Word) (m : Option ℤ) → is_taken duration_slot before ≡ true → is_taken delay_slot before ≡ false
    → IsMarked (SpellsTime true) (PastTime true) w m → take_time (held before) w ≡ Some (put (delay m) (held before))
unfolding take_time
delay_from before w (Some v) full open_one is = rw (has_duration before ∙ full, has_delay before ∙ open_one, (time_reads true w).ok_from v is) refl
delay_from before w None full open_one is = rw (has_duration before ∙ full, has_delay before ∙ open_one, (time_reads true w).past_from is) refl

-- the part that a word takes
pub record Step (before : List Part) (w : List Word) (next : Slots) : Type 0 where
  pub part : Part
  pub is : IsPart w part
  pub may : MayTake before w part
  pub held_is : next ≡ put part (held before)

pub time_to : (before : List Part) (w : List Word) (next : Slots) → take_time (held before) w ≡ Some next → Step before w next
unfolding take_time
time_to before w next e = elim (cases_Bool (is_taken duration_slot before)) [
  | inr open_one ↦
      let f = rw (has_duration before ∙ open_one) at e in
      let mark = taken_to (duration_of w) SpellsDuration (PastTime false) w _ _ next (duration_reads w) f in
      first mark.m mark.is open_one mark.some mark.none
  | inl full ↦ elim (cases_Bool (is_taken delay_slot before)) [
    | inl both ↦ absurd (let f : None ≡ Some next = rw (has_duration before ∙ full, has_delay before ∙ both) at e in cc)
    | inr open_one ↦
        let f = rw (has_duration before ∙ full, has_delay before ∙ open_one) at e in
        let mark = taken_to (time_of true w) (SpellsTime true) (PastTime true) w _ _ next (time_reads true w) f in
        second mark.m mark.is full open_one mark.some mark.none
  ]
] where
  first : (m : Option ℕ) → IsMarked SpellsDuration (PastTime false) w m → is_taken duration_slot before ≡ false
      → ((v : ℕ) → m ≡ Some v → next ≡ record (held before) { duration = Some v }) → (m ≡ None → next ≡ record (held before) { duration = Some 0; over = true })
      → Step before w next
  first (Some n) is open_one some none = record {
    part = duration (Some n);
    is = is;
    held_is = some n refl;
    may = record { free = open_one; second = λ e. absurd (cc); left = λ e. absurd (cc) };
  }
  first None is open_one some none = record {
    part = duration None;
    is = is;
    held_is = none refl;
    may = record { free = open_one; second = λ e. absurd (cc); left = λ e. absurd (cc) };
  }

  second : (m : Option ℤ) → IsMarked (SpellsTime true) (PastTime true) w m → is_taken duration_slot before ≡ true → is_taken delay_slot before ≡ false
      → ((v : ℤ) → m ≡ Some v → next ≡ record (held before) { delay = Some v }) → (m ≡ None → next ≡ record (held before) { delay = Some (pos 0); over = true })
      → Step before w next
  second (Some v) is full open_one some none = record {
    part = delay (Some v);
    is = is;
    held_is = some v refl;
    may = record { free = open_one; second = λ e. full; left = λ e. absurd (cc) };
  }
  second None is full open_one some none = record {
    part = delay None;
    is = is;
    held_is = none refl;
    may = record { free = open_one; second = λ e. full; left = λ e. absurd (cc) };
  }
