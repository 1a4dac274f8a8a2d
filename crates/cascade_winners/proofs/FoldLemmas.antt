-- The declarations of a rule, one selector after another.
use Rattle.std.proofs.Common.{◌≡◌, Bool, true, false, cond, List, [], ◌∷◌, ◌++◌, refl, ap}
use Rattle.std.specs.Prelude.{filter, flat_map}

-- a part that is left out where a test fails
pub flat_map-filter : {A B : Type 0} (f : A → List B) (test : A → Bool) (items : List A) → flat_map (λ item. cond (test item) (f item) []) items ≡ flat_map f (filter test items)
flat_map-filter f test [] = refl
flat_map-filter f test (item ∷ rest) = elim (test item) as (λ b. cond b (f item) [] ++ flat_map (λ item. cond (test item) (f item) []) rest ≡ flat_map f (cond b (item ∷ filter test rest) (filter test rest))) [
  | true ↦ ap (λ more. f item ++ more) (flat_map-filter f test rest)
  | false ↦ flat_map-filter f test rest
]
