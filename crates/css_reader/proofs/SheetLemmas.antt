-- The names of a sheet and their numbers.
use Rattle.std.proofs.Common.{◌≡◌, ℕ, cond, ◌<◌, List, [], ◌∷◌, ◌++◌, length, Some, None, refl, ap, ◌∙◌, arith, Result, Ok, Err, IsOk, OnOk, Vec, slice_get, length-append, ◌⊎◌, inl, inr, suc, zero, true, false, Option, sym, true≢false, is_some}
use Rattle.std.specs.Map.{lookup}
use Rattle.std.specs.Str.{bytes_eq}
use Rattle.std.proofs.lemmas.Map.Entries.{place_from_lookup}
use Rattle.std.proofs.lemmas.Option.{slice_get_within}
use Rattle.indexmap.specs.IndexMap.{IndexMap, insert_entry}
use Rattle.indexmap.proofs.CallerLemmas.{insert_entry-new}
use Rattle.page_model.specs.declared.keyframe.KeyframeSet.{KeyframeSet}
use Rattle.css_reader.specs.NameTable.{shown_names}
use Rattle.css_reader.specs.SheetState.{AreNumbered, IsNumbered, SheetState, frames_named, set_named, with_set, with_set_at}
use Rattle.std.specs.Prelude.{slice_set, unwrap_or}
use Rattle.std.proofs.lemmas.Bool.{cases_Bool}
use Rattle.std.proofs.lemmas.List.{length-set}
use Rattle.std.proofs.lemmas.Slice.Eq.{bytes_eq-Decides}

-- a look-up in the table is one among the names
pub lookup_shown : {M : Type 0} (name : List ℕ) (table : List (Vec ℕ M × ℕ)) → lookup (λ key. bytes_eq name key.items) table ≡ lookup (bytes_eq name) (shown_names table)
lookup_shown name [] = refl
lookup_shown name (entry ∷ rest) = ap (λ found. cond (bytes_eq name entry.0.items) (Some entry.1) found) (lookup_shown name rest)

pub shown_append : {M : Type 0} (table more : List (Vec ℕ M × ℕ)) → shown_names (table ++ more) ≡ shown_names table ++ shown_names more
shown_append [] more = refl
shown_append (entry ∷ rest) more = ap (λ names. (entry.0.items, entry.1) ∷ names) (shown_append rest more)

-- what holds where there is no error holds where there is none
pub from_ok : {A E : Type 0} {P : Type 0} (result : Result A E) → IsOk result → OnOk result P → P
from_ok (Ok value) ok holds = holds
from_ok (Err fault) ok holds = absurd (cc)

-- a new name goes last in the table
pub inserted_last : {M S : Type 0} (table : IndexMap (Vec ℕ M) ℕ S) (name : Vec ℕ M) (number : ℕ) → lookup (bytes_eq name.items) (shown_names table.entries) ≡ None → shown_names (insert_entry (λ a b. bytes_eq a.items b.items) table.entries name number) ≡ shown_names table.entries ++ (name.items, number) ∷ []
inserted_last table name number none =
    ap shown_names (insert_entry-new (λ a b. bytes_eq a.items b.items) table name number (lookup_shown name.items table.entries ∙ none))
    ∙ shown_append table.entries ((name, number) ∷ [])

-- a number is below the number of sets
pub named_within : (sets : List KeyframeSet) (names : List (List ℕ × ℕ)) (name : List ℕ) (number : ℕ) → AreNumbered sets names → lookup (bytes_eq name) names ≡ Some number → number < length sets
named_within sets names name number numbered named =
    let found = place_from_lookup (bytes_eq name) names number named in
    let place = numbered.in_order found.0 found.1 number found.2 in
    let within = slice_get_within names found.0 (found.1, number) found.2 in
    omega (arith, place, within, numbered.one_each)

-- an item of a list with one more is one of the list, or that one
got_push : {A : Type 0} (xs : List A) (x y : A) (i : ℕ) → slice_get (xs ++ x ∷ []) i ≡ Some y → (slice_get xs i ≡ Some y) ⊎ ((i ≡ length xs) × (y ≡ x))
got_push [] x y zero got = inr (refl, cc)
got_push [] x y (suc i) got = absurd (cc)
got_push (z ∷ zs) x y zero got = inl got
got_push (z ∷ zs) x y (suc i) got = elim (got_push zs x y i got) [ inl within ↦ inl within | inr last ↦ inr (omega (arith, last.0), last.1) ]

-- one set more keeps the order of the numbers
pub numbered_one_more : (sets : List KeyframeSet) (names : List (List ℕ × ℕ)) (name : List ℕ) (set : KeyframeSet) → AreNumbered sets names → AreNumbered (sets ++ set ∷ []) (names ++ (name, length sets) ∷ [])
numbered_one_more sets names name set numbered = record {
  one_each = omega (arith, length-append names ((name, length sets) ∷ []), length-append sets (set ∷ []), numbered.one_each);
  in_order = λ place other number found.
      elim (got_push names (name, length sets) (other, number) place found) [
        | inl within ↦ numbered.in_order place other number within
        | inr last ↦ omega (arith, last.0, numbered.one_each, ap (λ entry. entry.1) last.1)
      ];
}

-- items after a change of one, and after one more
set_there : {A : Type 0} (items : List A) (place : ℕ) (item : A) → place < length items → slice_get (slice_set items place item) place ≡ Some item
set_there [] place item within = absurd (omega (arith, within))
set_there (first ∷ items) zero item within = refl
set_there (first ∷ items) (suc place) item within = set_there items place item (omega (arith, within))

set_elsewhere : {A : Type 0} (items : List A) (place other : ℕ) (item : A) → (other ≡ place → ⊥) → slice_get (slice_set items place item) other ≡ slice_get items other
set_elsewhere [] place other item apart = refl
set_elsewhere (first ∷ items) zero zero item apart = absurd (apart refl)
set_elsewhere (first ∷ items) zero (suc other) item apart = refl
set_elsewhere (first ∷ items) (suc place) zero item apart = refl
set_elsewhere (first ∷ items) (suc place) (suc other) item apart = set_elsewhere items place other item (λ same. apart (ap suc same))

pushed_last : {A : Type 0} (items : List A) (item : A) → slice_get (items ++ item ∷ []) (length items) ≡ Some item
pushed_last [] item = refl
pushed_last (first ∷ items) item = pushed_last items item

pushed_before : {A : Type 0} (items : List A) (item : A) (place : ℕ) → place < length items → slice_get (items ++ item ∷ []) place ≡ slice_get items place
pushed_before [] item place within = absurd (omega (arith, within))
pushed_before (first ∷ items) item zero within = refl
pushed_before (first ∷ items) item (suc place) within = pushed_before items item place (omega (arith, within))

-- the look-up with one name more
looked_up : (names : List (List ℕ × ℕ)) (asked name : List ℕ) (number : ℕ) → lookup (bytes_eq asked) (names ++ (name, number) ∷ []) ≡ cond (is_some (lookup (bytes_eq asked) names)) (lookup (bytes_eq asked) names) (cond (bytes_eq asked name) (Some number) None)
looked_up [] asked name number = refl
looked_up (entry ∷ names) asked name number = elim (cases_Bool (bytes_eq asked entry.0)) [
  | inl is ↦ rw is refl
  | inr other ↦ rw other (looked_up names asked name number)
]

itself : (name : List ℕ) → bytes_eq name name ≡ true
itself name = (bytes_eq-Decides name name).1 refl

other_way : (name other : List ℕ) → bytes_eq name other ≡ false → bytes_eq other name ≡ false
other_way name other differ = elim (cases_Bool (bytes_eq other name)) [
  | inl same ↦ absurd (true≢false (sym ((bytes_eq-Decides name other).1 (sym ((bytes_eq-Decides other name).0 same))) ∙ differ))
  | inr none ↦ none
]

-- two names have two numbers
numbers_apart : (sets : List KeyframeSet) (names : List (List ℕ × ℕ)) → AreNumbered sets names → (name other : List ℕ) (m n : ℕ) → bytes_eq name other ≡ false → lookup (bytes_eq name) names ≡ Some m → lookup (bytes_eq other) names ≡ Some n → n ≡ m → ⊥
numbers_apart sets names numbered name other m n differ first second same =
    let one = place_from_lookup (bytes_eq name) names m first in
    let two = place_from_lookup (bytes_eq other) names n second in
    let at_m = numbered.in_order one.0 one.1 m one.2 in
    let at_n = numbered.in_order two.0 two.1 n two.2 in
    let places : two.0 ≡ one.0 = sym at_n ∙ same ∙ at_m in
    let entry : Some (one.1, m) ≡ Some (two.1, n) = sym one.2 ∙ ap (slice_get names) (sym places) ∙ two.2 in
    let key : one.1 ≡ two.1 = ap (λ (found : Option (List ℕ × ℕ)). (unwrap_or found (one.1, m)).0) entry in
    let is = (bytes_eq-Decides name one.1).0 one.3 ∙ key ∙ sym ((bytes_eq-Decides other two.1).0 two.3) in
    true≢false (sym ((bytes_eq-Decides name other).1 is) ∙ differ)

-- the name has the set
at_name : (sheet : SheetState) (name : List ℕ) (set : KeyframeSet) (found : Option ℕ) → IsNumbered sheet → set_named sheet name ≡ found → frames_named (with_set_at sheet name set found) name ≡ Some set
at_name sheet name set (Some number) numbered is = rw is (set_there sheet.sets number set (named_within sheet.sets sheet.names name number numbered is))
at_name sheet name set None numbered is =
    let last : lookup (bytes_eq name) (sheet.names ++ (name, length sheet.sets) ∷ []) ≡ Some (length sheet.sets)
    = looked_up sheet.names name name (length sheet.sets) ∙ rw (is, itself name) refl in
    rw last (pushed_last sheet.sets set)

-- another name keeps what it has
at_other : (sheet : SheetState) (name other : List ℕ) (set : KeyframeSet) (found kept : Option ℕ) → IsNumbered sheet → bytes_eq name other ≡ false → set_named sheet name ≡ found → set_named sheet other ≡ kept → frames_named (with_set_at sheet name set found) other ≡ frames_named sheet other
at_other sheet name other set (Some number) None numbered differ is none = rw none refl
at_other sheet name other set (Some number) (Some m) numbered differ is there =
    rw there (set_elsewhere sheet.sets number m set (numbers_apart sheet.sets sheet.names numbered name other number m differ is there))
at_other sheet name other set None None numbered differ is none =
    let still : lookup (bytes_eq other) (sheet.names ++ (name, length sheet.sets) ∷ []) ≡ None
    = looked_up sheet.names other name (length sheet.sets) ∙ rw (none, other_way name other differ) refl in
    rw (still, none) refl
at_other sheet name other set None (Some m) numbered differ is there =
    let still : lookup (bytes_eq other) (sheet.names ++ (name, length sheet.sets) ∷ []) ≡ Some m
    = looked_up sheet.names other name (length sheet.sets) ∙ rw there refl in
    rw (still, there) (pushed_before sheet.sets set m (named_within sheet.sets sheet.names other m numbered there))

pub put_is_named : (sheet : SheetState) (name : List ℕ) (set : KeyframeSet) → IsNumbered sheet → frames_named (with_set sheet name set) name ≡ Some set
put_is_named sheet name set numbered = at_name sheet name set (set_named sheet name) numbered refl

pub others_stay : (sheet : SheetState) (name other : List ℕ) (set : KeyframeSet) → IsNumbered sheet → bytes_eq name other ≡ false → frames_named (with_set sheet name set) other ≡ frames_named sheet other
others_stay sheet name other set numbered differ = at_other sheet name other set (set_named sheet name) (set_named sheet other) numbered differ refl refl

-- numbers stay in order
pub numbered_with_set : (sheet : SheetState) (name : List ℕ) (set : KeyframeSet) → IsNumbered sheet → IsNumbered (with_set sheet name set)
numbered_with_set sheet name set numbered = told (set_named sheet name)
  where
    told : (found : Option ℕ) → IsNumbered (with_set_at sheet name set found)
    told (Some number) = record { one_each = numbered.one_each ∙ sym (length-set sheet.sets number set); in_order = numbered.in_order }
    told None = numbered_one_more sheet.sets sheet.names name set numbered
