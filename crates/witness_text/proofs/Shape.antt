-- The value of a witness has no float, and nests so little that its text is read back.
use Rattle.std.proofs.Common.{◌≡◌, ℕ, ◌≤◌, pos, negsuc, ℤ, List, [], ◌∷◌, false, map, refl, arith, inl, inr}
use Rattle.std.specs.Prelude.{◌==◌}
use Rattle.std.proofs.lemmas.Bool.{cases_Bool}
use Rattle.serde_json.specs.Data.{Data, depth, items_depth}
use Rattle.serde_json.specs.Find.{is_float, of_integer}
use Rattle.serde_json.specs.Read.{max_depth}
use Rattle.serde_json.specs.View.{items_of}
use Rattle.serde_json.specs.Written.{has_float, items_have_float}
use Rattle.page_model.specs.declared.witness.Part.{Part}
use Rattle.page_model.specs.declared.witness.Witness.{Witness}
use Rattle.witness_text.specs.PartValue.{natural, tint_value, part_value}
use Rattle.witness_text.specs.WitnessText.{value_of_first, value_of_second, witness_value}

-- ---- no float

-- a list of values that have no float has none
items_whole : {A : Type 0} (f : A → Data) (xs : List A) → ((x : A) → has_float (f x) ≡ false) → items_have_float (items_of (map f xs)) ≡ false
items_whole f [] whole = refl
items_whole f (x ∷ xs) whole = rw (whole x) (items_whole f xs whole)

integer_whole : (z : ℤ) → is_float (of_integer z) ≡ false
integer_whole (pos n) = refl
integer_whole (negsuc n) = refl

part_whole : (p : Part) → has_float (part_value p) ≡ false
unfolding part_value
part_whole p = rw (items_whole natural p.frames (λ n. refl), items_whole tint_value p.tints (λ t. refl))

first_whole : (w : Witness) → has_float (value_of_first w) ≡ false
unfolding value_of_first
first_whole w = rw (items_whole part_value w.parts part_whole, integer_whole w.x, integer_whole w.y)

second_whole : (w : Witness) → has_float (value_of_second w) ≡ false
unfolding value_of_second
second_whole w = rw (items_whole part_value w.parts part_whole, integer_whole w.x, integer_whole w.y)

-- what holds of the object in both versions holds of the object
pub in_each_version : (P : Data → Type 0) (w : Witness) → P (value_of_first w) → P (value_of_second w) → P (witness_value w)
unfolding witness_value
in_each_version P w first second =
    elim (cases_Bool (w.per == 1)) [
      | inl whole ↦ rw whole first
      | inr over ↦ rw over second
    ]

pub witness_whole : (w : Witness) → has_float (witness_value w) ≡ false
witness_whole w = in_each_version (λ d. has_float d ≡ false) w (first_whole w) (second_whole w)

-- ---- how deep it nests

-- a list of values is as deep as the deepest of them
items_within : {A : Type 0} (f : A → Data) (n : ℕ) (xs : List A) → ((x : A) → depth (f x) ≤ n) → items_depth (items_of (map f xs)) ≤ n
items_within f n [] within = omega arith
items_within f n (x ∷ xs) within = omega (arith, within x, items_within f n xs within)

part_within : (p : Part) → depth (part_value p) ≤ 2
unfolding part_value
part_within p = omega (arith, items_within natural 0 p.frames (λ n. omega arith), items_within tint_value 0 p.tints (λ t. omega arith))

first_within : (w : Witness) → depth (value_of_first w) ≤ max_depth
unfolding value_of_first
first_within w = omega (arith, items_within part_value 2 w.parts part_within)

second_within : (w : Witness) → depth (value_of_second w) ≤ max_depth
unfolding value_of_second
second_within w = omega (arith, items_within part_value 2 w.parts part_within)

pub witness_within : (w : Witness) → depth (witness_value w) ≤ max_depth
witness_within w = in_each_version (λ d. depth d ≤ max_depth) w (first_within w) (second_within w)
