-- Runs of places whose changes are opposing ones in turn, and the first of them.
use Rattle.std.specs.Prelude.{ℕ, ◌≡◌, ◌⊎◌, ◌<◌, ◌≤◌, Option, Some, None, MatchOption, List, [], ◌∷◌, length, slice_index}
use Rattle.page_model.specs.declared.colour.Tint.{Tint}
use Rattle.page_model.specs.Flash.{IsNoLater}
use Rattle.tint_changes.specs.declared.changes.Opposing.{Opposing}
use Rattle.tint_changes.specs.Counting.{MakesAt}

-- the places rise from one on, and the changes between neighbours are the first and the second in turn
abbrev pub Follows : (ℕ → ℕ → Type 0) → (ℕ → ℕ → Type 0) → ℕ → List ℕ → Type 0
Follows First Second place [] = Unit {0}
Follows First Second place (k ∷ rest) = (place < k) × First place k × Follows Second First k rest

-- they do so, and no such list of this length is before them
pub record FollowsFirst (First Second : ℕ → ℕ → Type 0) (place : ℕ) (places : List ℕ) : Type 0 where
  pub follows : Follows First Second place places
  pub first : (others : List ℕ) → length others ≡ length places → Follows First Second place others → IsNoLater places others

-- the same by two opposing changes of a list of tints
abbrev pub FollowsFirstOf : Opposing → List Tint → ℕ → List ℕ → Type 0
FollowsFirstOf opposing tints place places =
    FollowsFirst (MakesAt opposing.first tints) (MakesAt opposing.second tints) place places

-- a place behind another makes the first change with it, and so many more changes can be had from it by its count
pub record LeadsOn (opposing : Opposing) (tints : List Tint) (counts : List ℕ) (place more later : ℕ) : Type 0 where
  pub change : MakesAt opposing.first tints place later
  pub enough : more ≤ slice_index counts later

-- it is the first such place
pub record LeadsOnFirst (opposing : Opposing) (tints : List Tint) (counts : List ℕ) (place more next : ℕ) : Type 0 where
  pub behind : place < next
  pub inside : next < length tints
  pub leads : LeadsOn opposing tints counts place more next
  pub first : (k : ℕ) → place < k → k < length tints → LeadsOn opposing tints counts place more k → next ≤ k

-- nine places, the first change first
abbrev pub IsRun : (ℕ → ℕ → Type 0) → (ℕ → ℕ → Type 0) → List ℕ → Type 0
IsRun First Second [] = ⊥
IsRun First Second (place ∷ rest) = (length rest ≡ 8) × Follows First Second place rest

-- some list has a property, and is the first of all that have it
pub record IsFirstOf (P : List ℕ → Type 0) (places : List ℕ) : Type 0 where
  pub has : P places
  pub first : (others : List ℕ) → P others → IsNoLater places others

-- the first list that has a property, or none
abbrev pub FirstOf : (List ℕ → Type 0) → Option (List ℕ) → Type 0
FirstOf P found = MatchOption found ((places : List ℕ) → P places → ⊥) (IsFirstOf P)

-- the first run of nine places, the first change first
abbrev pub FirstRunOf : Opposing → List Tint → Option (List ℕ) → Type 0
FirstRunOf opposing tints found = FirstOf (IsRun (MakesAt opposing.first tints) (MakesAt opposing.second tints)) found

-- one of two lists that isn't after the other
abbrev pub IsEarlier : Option (List ℕ) → Option (List ℕ) → Option (List ℕ) → Type 0
IsEarlier None other found = found ≡ other
IsEarlier (Some one) None found = found ≡ Some one
IsEarlier (Some one) (Some other) found =
    ((found ≡ Some one) × IsNoLater one other) ⊎ ((found ≡ Some other) × IsNoLater other one)
