-- The tables of a sheet's keyframe sets.
use Rattle.std.proofs.Common.{◌≡◌, ℕ, cond, ◌+◌, List, [], ◌∷◌, Option, Some, None, refl, ap, ◌∙◌, arith, suc, zero, slice_get, take, count_by, inl, inr}
use Rattle.std.proofs.lemmas.List.Sums.{sum_by-cons}
use Rattle.std.specs.Prelude.{option_and_then, if◌then◌else◌}
use Rattle.std.proofs.lemmas.Bool.{cases_Bool}
use Rattle.page_model.specs.declared.keyframe.KeyframeSet.{KeyframeSet}
use Rattle.page_model.specs.Cascade.{kept_number, names_property}
use Rattle.cascade.specs.SetTables.{kept_from, kept_in}

-- the number of a set, where so many kept ones stand before
abbrev pub number_in : List KeyframeSet → ℕ → ℕ → Option ℕ
number_in sets number kept = option_and_then (λ (set : KeyframeSet). if names_property set then Some kept else None) (slice_get sets number)

counted : (set : KeyframeSet) (sets : List KeyframeSet) (more : ℕ) → cond (names_property set) 1 0 ≡ more → count_by names_property (set ∷ sets) ≡ more + count_by names_property sets
counted set sets more is = sum_by-cons (λ set. cond (names_property set) 1 0) set sets ∙ ap (λ n. n + count_by names_property sets) is

numbered : (before : ℕ) (sets : List KeyframeSet) (number : ℕ) → kept_in (kept_from before sets) number ≡ number_in sets number (before + count_by names_property (take number sets))
numbered before [] number = refl
numbered before (set ∷ sets) zero = elim (cases_Bool (names_property set)) [
  | inl is ↦ rw is (ap Some (omega arith))
  | inr other ↦ rw other refl
]
numbered before (set ∷ sets) (suc number) = elim (cases_Bool (names_property set)) [
  | inl is ↦
      let first : kept_in (kept_from before (set ∷ sets)) (suc number) ≡ kept_in (kept_from (before + 1) sets) number = rw is refl in
      let count = counted set (take number sets) 1 (rw is refl) in
      first ∙ numbered (before + 1) sets number ∙ ap (number_in sets number) (omega (arith, count))
  | inr other ↦
      let first : kept_in (kept_from before (set ∷ sets)) (suc number) ≡ kept_in (kept_from before sets) number = rw other refl in
      let count = counted set (take number sets) 0 (rw other refl) in
      first ∙ numbered before sets number ∙ ap (number_in sets number) (omega (arith, count))
]

-- the table says what the definition says
pub table_told : (sets : List KeyframeSet) (number : ℕ) → kept_in (kept_from 0 sets) number ≡ kept_number sets number
table_told sets number = numbered 0 sets number ∙ ap (number_in sets number) (omega arith)
