-- Items of the shorthand that are read are those that are spelled.
use Rattle.std.proofs.Common.{ℕ, ℤ, pos, ◌≡◌, ◌∙◌, ◌<◌, ◌≤◌, ◌&&◌, not, Bool, true, false, List, [], ◌∷◌, ◌++◌, length, Option, Some, None, Ok, Err, option_and_then, refl, ap, sym, subst, inl, inr, arith}
use Rattle.std.proofs.lemmas.Bool.{cases_Bool, and_parts, not-true}
use Rattle.page_model.specs.declared.easing.Jump.{Jump}
use Rattle.style_tokens.specs.declared.token.CssKind.TheVariants.{Ident, Number}
use Rattle.css_words.specs.declared.fault.ValueFault.TheVariants.{OverLimit}
use Rattle.css_columns.specs.declared.item.Shorthand.{Shorthand}
use Rattle.css_items.specs.ItemWords.{direction_words, fill_words, play_words}
use Rattle.css_items.specs.Lists.{before_first, goes_in}
use Rattle.css_values.specs.ShorthandGrammar.{Slots, ends_word, groups, free, take_word, take_all, settled, item_of}
use Rattle.css_words.specs.Words.{Word, is_comma}
use Rattle.css_easing_laws.specs.SpelledEasings.{IsSteps, IsCurve, SpellsEasing, PastEasing}
use Rattle.css_value_laws.specs.SpelledLists.{IsMarked}
use Rattle.css_word_laws.specs.SpelledNumbers.{word}
use Rattle.css_quantity_laws.specs.SpelledQuantities.{SpellsTime, PastTime, SpellsDuration, SpellsCount, PastCount}
use Rattle.css_quantity_laws.specs.SpelledQuantities.SpellsCount.{endless, times}
use Rattle.css_declaration_laws.specs.SpelledShorthand.{Part, IsPart, Takes, is_past, SpellsItem, PastItem}
use Rattle.css_declaration_laws.specs.SpelledShorthand.Part.{duration, delay, easing, count, direction, fill, play, name}
use Rattle.css_declaration_laws.specs.SpelledShorthand.Takes.{all, next}
use Rattle.css_value_laws.proofs.ClosingLemmas.{count_closes, duration_closes, easing_closes, keyword_closes, name_closes, time_closes}
use Rattle.css_value_laws.proofs.ListLemmas.{Closes, closes, mark_closes}
use Rattle.css_word_laws.proofs.Readings.{Reads, reads_bad, reads_ok, reads_over, reads_of, reads_if}
use Rattle.css_declaration_laws.proofs.SlotLemmas.{held, has_over, made, made_is}
use Rattle.css_declaration_laws.proofs.StepLemmas.{step_from, step_to}

-- the words are one group
abbrev wraps : Bool → List Word → Bool
wraps inside [] = false
wraps inside (w ∷ []) = ends_word inside w.kind
wraps inside (w ∷ (v ∷ more)) = not (ends_word inside w.kind) && wraps true (v ∷ more)

group_first : (inside : Bool) (w rest : List Word) → wraps inside w ≡ true → groups inside (w ++ rest) ≡ w ∷ groups false rest
group_first inside [] rest e = absurd (cc)
group_first inside (w ∷ []) rest e = rw e refl
group_first inside (w ∷ (v ∷ more)) rest e =
    let both = and_parts (not (ends_word inside w.kind)) (wraps true (v ∷ more)) e in
    rw (not-true (ends_word inside w.kind) both.0, group_first true (v ∷ more) rest both.1) refl

number_wraps : (words : List Word) (bytes : List ℕ) → words ≡ word Number bytes ∷ [] → wraps false words ≡ true
number_wraps words bytes e = rw e refl

ident_wraps : (words : List Word) (bytes : List ℕ) → words ≡ word Ident bytes ∷ [] → wraps false words ≡ true
ident_wraps words bytes e = rw e refl

time_wraps : (signed : Bool) (words : List Word) (m : Option ℤ) → IsMarked (SpellsTime signed) (PastTime signed) words m → wraps false words ≡ true
time_wraps signed words (Some v) s = elim s [ inl w ↦ number_wraps words w.measure.bytes w.measure.alone | inr w ↦ number_wraps words w.measure.bytes w.measure.alone ]
time_wraps signed words None s = elim s [ inl w ↦ number_wraps words w.measure.bytes w.measure.alone | inr w ↦ number_wraps words w.measure.bytes w.measure.alone ]

steps_wrap : (words : List Word) (count : ℕ) (jump : Jump) → IsSteps words count jump → wraps false words ≡ true
steps_wrap words n jump s = elim s.is_jump [
  | inl bare_one ↦ rw (s.joined, bare_one.0.alone) refl
  | inr named ↦ rw (s.joined, named.joined) refl
]

curve_wraps : (words : List Word) (x1 y1 x2 y2 : ℤ) → IsCurve words x1 y1 x2 y2 → wraps false words ≡ true
curve_wraps words x1 y1 x2 y2 c = rw c.joined refl

part_wraps : (words : List Word) (part : Part) → IsPart words part → wraps false words ≡ true
part_wraps words (duration (Some n)) s = time_wraps false words (Some (pos n)) s
part_wraps words (duration None) s = time_wraps false words None s
part_wraps words (delay m) s = time_wraps true words m s
part_wraps words (easing (Some e)) s = elim s [
  | inl k ↦ ident_wraps words k.bytes k.alone
  | inr more ↦ elim more [ inl t ↦ steps_wrap words t.count t.jump t.steps | inr c ↦ curve_wraps words (pos c.x1) c.y1 (pos c.x2) c.y2 c.curve ]
]
part_wraps words (easing None) s = elim s [ inl t ↦ steps_wrap words t.count t.jump t.steps | inr c ↦ curve_wraps words (pos c.x1) c.y1 (pos c.x2) c.y2 c.curve ]
part_wraps words (count (Some c)) (endless w) = ident_wraps words w.bytes w.alone
part_wraps words (count (Some c)) (times n w) = number_wraps words w.measure.bytes w.measure.alone
part_wraps words (count None) s = number_wraps words s.measure.bytes s.measure.alone
part_wraps words (direction d) s = ident_wraps words s.bytes s.alone
part_wraps words (fill f) s = ident_wraps words s.bytes s.alone
part_wraps words (play p) s = ident_wraps words s.bytes s.alone
part_wraps words (name None) s = ident_wraps words s.bytes s.alone
part_wraps words (name (Some bytes)) s = ident_wraps words bytes s.alone

-- words that are groups one after the other
data IsGrouped : List Word → List (List Word) → Type 0 where
  none : IsGrouped [] []
  one : (group rest : List Word) (others : List (List Word)) → IsGrouped rest others → IsGrouped (group ++ rest) (group ∷ others)

in_front : (w : Word) (words : List Word) (parts : List (List Word)) → IsGrouped words parts → IsGrouped (w ∷ words) (before_first w parts)
in_front w words parts none = one (w ∷ []) [] [] none
in_front w words parts (one group rest others tail) = one (w ∷ group) rest others tail

groups_are : (inside : Bool) (words : List Word) → IsGrouped words (groups inside words)
groups_are true [] = one [] [] [] none
groups_are false [] = none
groups_are inside (w ∷ rest) = elim (cases_Bool (ends_word inside w.kind)) [
  | inl ends ↦ rw ends (one (w ∷ []) rest (groups false rest) (groups_are false rest))
  | inr on ↦ rw on (in_front w rest (groups true rest) (groups_are true rest))
]

-- what the words of an item take
record Taken (before : List Part) (words : List Word) (slots : Slots) : Type 0 where
  pub parts : List Part
  pub takes : Takes before words parts
  pub held_is : slots ≡ held parts

record Bound {A B : Type 0} (f : A → Option B) (o : Option A) (y : B) : Type 0 where
  pub x : A
  pub first : o ≡ Some x
  pub second : f x ≡ Some y

bound : {A B : Type 0} (f : A → Option B) (o : Option A) (y : B) → option_and_then f o ≡ Some y → Bound f o y
bound f None y e = absurd (cc)
bound f (Some x) y e = record { x = x; first = refl; second = e }

some_same : {A : Type 0} {x y : A} → Some x ≡ Some y → x ≡ y
some_same e = cc

takes_to : (before : List Part) (words : List Word) (parts : List (List Word)) (slots : Slots) → IsGrouped words parts → take_all (held before) parts ≡ Some slots
    → Taken before words slots
takes_to before words parts slots none e = record { parts = before; takes = all before; held_is = sym (some_same e) }
takes_to before words parts slots (one group rest others tail) e =
    let both = bound (λ n. take_all n others) (take_word (held before) group) slots e in
    let step = step_to before group both.x both.first in
    let f : take_all (held (step.part ∷ before)) others ≡ Some slots = sym (ap (λ n. take_all n others) step.held_is) ∙ both.second in
    let further = takes_to (step.part ∷ before) rest others slots tail f in
    record { parts = further.parts; takes = next before group rest step.part further.parts step.is step.may further.takes; held_is = further.held_is }

takes_from : (before : List Part) (words : List Word) (parts : List Part) → Takes before words parts → take_all (held before) (groups false words) ≡ Some (held parts)
takes_from before words parts (all b) = refl
takes_from before words parts (next b w rest part others is may tail) =
    rw (group_first false w rest (part_wraps w part is), step_from before w part is may) (takes_from (part ∷ before) rest parts tail)

-- as many parts at least
takes_more : (before : List Part) (words : List Word) (parts : List Part) → Takes before words parts → length before ≤ length parts
takes_more before words parts (all b) = omega arith
takes_more before words parts (next b w rest part others is may tail) = let more = takes_more (part ∷ before) rest parts tail in omega arith

takes_some : (before : List Part) (words : List Word) (parts : List Part) → Takes before words parts → 0 < length words → length before < length parts
takes_some before words parts (all b) some = absurd (omega arith)
takes_some before words parts (next b w rest part others is may tail) some = let more = takes_more (part ∷ before) rest parts tail in omega arith

-- no words take nothing
part_some : (words : List Word) (part : Part) → IsPart words part → words ≡ [] → ⊥
part_some words part is e = let w = part_wraps words part is in let f : wraps false [] ≡ true = subst (λ t. wraps false t ≡ true) e w in cc

front_empty : (w rest : List Word) → w ++ rest ≡ [] → w ≡ []
front_empty [] rest e = refl
front_empty (x ∷ w) rest e = absurd (cc)

takes_none : (before : List Part) (words : List Word) (parts : List Part) → Takes before words parts → words ≡ [] → parts ≡ before
takes_none before words parts (all b) e = refl
takes_none before words parts (next b w rest part others is may tail) e = absurd (part_some w part is (front_empty w rest e))

no_item : (item : Shorthand) → SpellsItem [] item → ⊥
no_item item s = let none = takes_none [] [] s.parts s.takes refl in let some = s.some in let short = ap length none in omega arith

no_past : PastItem [] → ⊥
no_past p = let over = p.over in let f : is_past [] ≡ true = subst (λ t. is_past t ≡ true) (takes_none [] [] p.parts p.takes refl) over in cc

same_held : (words : List Word) (slots : Slots) (parts : List Part) → take_all free (groups false words) ≡ Some slots → Takes [] words parts → held parts ≡ slots
same_held words slots parts e takes = some_same (sym (takes_from [] words parts takes) ∙ e)

pub item_reads : (words : List Word) → Reads (item_of words) (SpellsItem words) (PastItem words)
unfolding item_of settled
item_reads [] = reads_bad _ _ no_item no_past
item_reads (w ∷ rest) =
    reads_of (take_all free (groups false (w ∷ rest))) settled (SpellsItem (w ∷ rest)) (PastItem (w ∷ rest))
    (λ none. reads_bad _ _ (λ item s. let e = takes_from [] (w ∷ rest) s.parts s.takes in cc) (λ p. let e = takes_from [] (w ∷ rest) p.parts p.takes in cc))
    (λ slots some. let taken = takes_to [] (w ∷ rest) (groups false (w ∷ rest)) slots (groups_are false (w ∷ rest)) some in
    by slots some taken.parts taken.takes taken.held_is) where
      by : (slots : Slots) → take_all free (groups false (w ∷ rest)) ≡ Some slots → (parts : List Part) → Takes [] (w ∷ rest) parts → slots ≡ held parts
          → Reads (settled slots) (SpellsItem (w ∷ rest)) (PastItem (w ∷ rest))
      by slots some parts takes held_is =
          reads_if slots.over (Err OverLimit) (Ok (made slots)) (SpellsItem (w ∷ rest)) (PastItem (w ∷ rest))
          (λ over. reads_over _ _ (record { parts = parts; takes = takes; over = sym (has_over parts) ∙ sym (ap (λ (s : Slots). s.over) held_is) ∙ over })
          (λ item s. let same = same_held (w ∷ rest) slots s.parts some s.takes in
          let e : is_past s.parts ≡ true = sym (has_over s.parts) ∙ ap (λ (t : Slots). t.over) same ∙ over in let f = s.within in cc))
          (λ fits. reads_ok _ _ (made slots)
          (record {
            parts = parts;
            takes = takes;
            some = takes_some [] (w ∷ rest) parts takes (omega arith);
            within = sym (has_over parts) ∙ sym (ap (λ (s : Slots). s.over) held_is) ∙ fits;
            value = ap made held_is ∙ made_is parts (sym (has_over parts) ∙ sym (ap (λ (s : Slots). s.over) held_is) ∙ fits);
          })
          (λ item s. ap made (sym (same_held (w ∷ rest) slots s.parts some s.takes)) ∙ made_is s.parts s.within ∙ sym s.value)
          (λ p. let same = same_held (w ∷ rest) slots p.parts some p.takes in
          let e : is_past p.parts ≡ false = sym (has_over p.parts) ∙ ap (λ (t : Slots). t.over) same ∙ fits in let f = p.over in cc))

-- an item has no comma outside parentheses
closes_on : (inside : Bool) (w rest : List Word) → closes inside w ≡ true → closes inside (w ++ rest) ≡ closes false rest
closes_on true [] rest e = absurd (cc)
closes_on false [] rest e = refl
closes_on inside (v ∷ w) rest e = elim (cases_Bool (not inside && is_comma v.kind)) [
  | inl is ↦ absurd (let f : false ≡ true = rw is at e in cc)
  | inr other ↦ let f : closes (goes_in inside v.kind) w ≡ true = rw other at e in rw other (closes_on (goes_in inside v.kind) w rest f)
]

part_closes : (words : List Word) (part : Part) → IsPart words part → closes false words ≡ true
part_closes words (duration m) s = mark_closes SpellsDuration (PastTime false) duration_closes words m s
part_closes words (delay m) s = mark_closes (SpellsTime true) (PastTime true) (time_closes true) words m s
part_closes words (easing m) s = mark_closes SpellsEasing PastEasing easing_closes words m s
part_closes words (count m) s = mark_closes SpellsCount PastCount count_closes words m s
part_closes words (direction d) s = (keyword_closes direction_words).0 words d s
part_closes words (fill f) s = (keyword_closes fill_words).0 words f s
part_closes words (play p) s = (keyword_closes play_words).0 words p s
part_closes words (name n) s = name_closes.0 words n s

takes_close : (before : List Part) (words : List Word) (parts : List Part) → Takes before words parts → closes false words ≡ true
takes_close before words parts (all b) = refl
takes_close before words parts (next b w rest part others is may tail) = closes_on false w rest (part_closes w part is) ∙ takes_close (part ∷ before) rest parts tail

pub item_closes : Closes SpellsItem PastItem
item_closes = (λ words item s. takes_close [] words s.parts s.takes, λ words p. takes_close [] words p.parts p.takes)
