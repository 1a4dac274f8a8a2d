-- Two parts that share a pixel: what a walk over all pairs keeps, and where it ends.
use Rattle.std.proofs.Common.{◌≡◌, ℕ, ◌+◌, ◌<◌, ◌≤◌, List, Some, length, slice_get, arith, inl, inr, subst}
use Rattle.std.specs.Prelude.{◌⊎◌}
use Rattle.std.proofs.lemmas.Bool.{cases_lt}
use Rattle.std.proofs.lemmas.Option.{slice_get_within}
use Rattle.page_model.specs.declared.witness.Part.{Part}
use Rattle.page_model.specs.declared.witness.Witness.{Witness}
use Rattle.page_model.specs.WitnessConditions.{PartsApart}
use Rattle.witness_checks.specs.Faults.{IsFirstOverlap, ShareAPixel}
use Rattle.witness_checks.specs.Places.{AreApartBefore, IsApartFrom, IsNextOverlap}

pub apart-wider : (parts : List Part) (first end : ℕ) → length parts ≤ end → IsApartFrom parts first end → IsApartFrom parts first (length parts)
apart-wider parts first end past apart j a b rising within = apart j a b rising (omega arith)

pub apart-more : (parts : List Part) (first : ℕ) → AreApartBefore parts first → IsApartFrom parts first (length parts) → AreApartBefore parts (first + 1)
apart-more parts first before here i less =
    elim (cases_lt i first) [
      | inl earlier ↦ before i earlier
      | inr later ↦ let at : first ≡ i = omega arith in subst (λ (n : ℕ). IsApartFrom parts n (length parts)) at here
    ]

pub apart-all : (parts : List Part) (end : ℕ) → length parts ≤ end → AreApartBefore parts end → AreApartBefore parts (length parts)
apart-all parts end past before i less = before i (omega arith)

-- the next overlap of the first part that has one is the first
pub first-overlap : (parts : List Part) (first second : ℕ) → AreApartBefore parts first → IsNextOverlap parts first second
    → IsFirstOverlap parts first second
first-overlap parts first second before is = record {
  one = is.one;
  other = is.other;
  rising = is.rising;
  at_first = is.at_first;
  at_second = is.at_second;
  shared = is.shared;
  before = none;
} where
  none : (i j : ℕ) (a b : Part) → i < j → (i < first) ⊎ ((i ≡ first) × (j < second)) → slice_get parts i ≡ Some a
      → slice_get parts j ≡ Some b → ShareAPixel a b → ⊥
  none i j a b rising (inl earlier) one other = before i earlier j a b rising (slice_get_within parts j b other) one other
  none i j a b rising (inr same) one other =
      is.before j a b (let e = same.0 in omega arith) same.1 (subst (λ (n : ℕ). slice_get parts n ≡ Some a) same.0 one) other

-- no two share a pixel
pub parts-apart : (w : Witness) → AreApartBefore w.parts (length w.parts) → PartsApart w
parts-apart w apart i j first second rising one other column row in_one in_other =
    apart i (let within = slice_get_within w.parts j second other in omega arith) j first second rising (slice_get_within w.parts j second other) one other
    (record { column = column; row = row; in_one = in_one; in_other = in_other })
