-- How many opposing changes in turn can be had from a place.
use Rattle.std.specs.Prelude.{ℕ, zero, suc, ◌≡◌, ◌<◌, ◌≤◌, Option, MatchOption, List, length, slice_index}
use Rattle.page_model.specs.declared.colour.Tint.{Tint}
use Rattle.page_model.specs.Change.{IsPossibleRise, IsPossibleFall, IsSureRise, IsSureFall, IsPossiblyIntoRed, IsPossiblyOutOfRed, IsSurelyIntoRed, IsSurelyOutOfRed}
use Rattle.tint_changes.specs.declared.changes.Change.{Change}
use Rattle.tint_changes.specs.declared.changes.Opposing.{Opposing}
use Rattle.tint_changes.specs.declared.changes.Change.TheVariants.{PossibleRise, PossibleFall, SureRise, SureFall, PossiblyIntoRed, PossiblyOutOfRed, SurelyIntoRed, SurelyOutOfRed}
use Rattle.tint_changes.specs.Chains.{IsChangeAt}

-- two tints make a change of a sort
abbrev pub Makes : Change → Tint → Tint → Type 0
Makes PossibleRise a b = IsPossibleRise a b
Makes PossibleFall a b = IsPossibleFall a b
Makes SureRise a b = IsSureRise a b
Makes SureFall a b = IsSureFall a b
Makes PossiblyIntoRed a b = IsPossiblyIntoRed a b
Makes PossiblyOutOfRed a b = IsPossiblyOutOfRed a b
Makes SurelyIntoRed a b = IsSurelyIntoRed a b
Makes SurelyOutOfRed a b = IsSurelyOutOfRed a b

-- the tints at two places make a change of a sort
abbrev pub MakesAt : Change → List Tint → ℕ → ℕ → Type 0
MakesAt change tints j k = IsChangeAt (Makes change) tints j k

-- from a place so many changes in turn can be had, each at a later place than the one before
abbrev pub Begins : (ℕ → ℕ → Type 0) → (ℕ → ℕ → Type 0) → ℕ → ℕ → Type 0
Begins First Second zero place = Unit {0}
Begins First Second (suc n) place = (k : ℕ) × (place < k) × First place k × Begins Second First n k

-- the count is how many can be had from a place, or eight where more can
pub record IsCount (First Second : ℕ → ℕ → Type 0) (place count : ℕ) : Type 0 where
  pub has : (n : ℕ) → n ≤ count → Begins First Second n place
  pub most : (n : ℕ) → n ≤ 8 → Begins First Second n place → n ≤ count
  pub small : count ≤ 8

-- the same by the places before one alone, as the second that the changes reach
pub record IsCountBefore (First Second : ℕ → ℕ → Type 0) (place later count : ℕ) : Type 0 where
  pub has : (n : ℕ) → n ≤ count → Begins First Second n place
  pub most : (n k : ℕ) → n < 8 → place < k → k < later → First place k → Begins Second First n k → n < count
  pub small : count ≤ 8

-- the counts of the places from one on
abbrev pub AreCounts : (ℕ → ℕ → Type 0) → (ℕ → ℕ → Type 0) → ℕ → ℕ → List ℕ → Type 0
AreCounts First Second start end counts =
    (place : ℕ) → start ≤ place → place < end → IsCount First Second place (slice_index counts place)

-- a count of a list of tints, by two opposing changes
abbrev pub IsCountOf : Opposing → List Tint → ℕ → ℕ → Type 0
IsCountOf opposing tints place count = IsCount (MakesAt opposing.first tints) (MakesAt opposing.second tints) place count

-- the counts of such a list from a place on, where the first change comes first
abbrev pub CountsFirst : Opposing → List Tint → ℕ → List ℕ → Type 0
CountsFirst opposing tints start counts =
    AreCounts (MakesAt opposing.first tints) (MakesAt opposing.second tints) start (length tints) counts

-- and where the second does
abbrev pub CountsSecond : Opposing → List Tint → ℕ → List ℕ → Type 0
CountsSecond opposing tints start counts =
    AreCounts (MakesAt opposing.second tints) (MakesAt opposing.first tints) start (length tints) counts

-- the first of so many places with a count of eight, or none
abbrev pub IsFirstFull : List ℕ → ℕ → Option ℕ → Type 0
IsFirstFull counts places found =
    MatchOption found ((k : ℕ) → k < places → slice_index counts k ≡ 8 → ⊥)
    (λ place. (place < places) × (slice_index counts place ≡ 8) × ((k : ℕ) → k < places → slice_index counts k ≡ 8 → place ≤ k))
