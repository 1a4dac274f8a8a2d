-- Where parts lie: along one side, and beside each other.
use Rattle.std.specs.Prelude.{ℕ, ℤ, pos, ◌≡◌, ◌⊎◌, ◌+◌, ◌<◌, ◌≤◌, ◌≤ℤ◌, ◌+ℤ◌, List, length, slice_get, Some}
use Rattle.page_model.specs.declared.witness.Part.{Part}
use Rattle.witness_checks.specs.Faults.{ShareAPixel}

-- some places from a start on, below a limit, and among so many from a position on
pub record LieWithin (start size limit : ℕ) (from : ℤ) (span : ℕ) : Type 0 where
  pub some : 0 < size
  pub below_limit : start + size ≤ limit
  pub from_position : from ≤ℤ pos start
  pub to_end : pos (start + size) ≤ℤ (from +ℤ pos span)

-- so many places from a start on, and so many from another on, have one in common
pub record ShareAPlace (start size other other_size : ℕ) : Type 0 where
  pub place : ℕ
  pub from_start : start ≤ place
  pub to_end : place < start + size
  pub from_other : other ≤ place
  pub to_other_end : place < other + other_size

-- a part shares no pixel with those behind it, up to a place
abbrev pub IsApartFrom : List Part → ℕ → ℕ → Type 0
IsApartFrom parts first end =
    (j : ℕ) (a b : Part) → first < j → j < end → slice_get parts first ≡ Some a → slice_get parts j ≡ Some b → ShareAPixel a b → ⊥

-- no two parts share a pixel of which the first stands before a place
abbrev pub AreApartBefore : List Part → ℕ → Type 0
AreApartBefore parts end = (i : ℕ) → i < end → IsApartFrom parts i (length parts)

-- the first part behind a part that shares a pixel with it
pub record IsNextOverlap (parts : List Part) (first second : ℕ) : Type 0 where
  pub one : Part
  pub other : Part
  pub rising : first < second
  pub at_first : slice_get parts first ≡ Some one
  pub at_second : slice_get parts second ≡ Some other
  pub shared : ShareAPixel one other
  pub before : IsApartFrom parts first second

-- two parts have the same rows, and the columns of one end before those of the other begin
pub record IsLeftOf (one other : Part) : Type 0 where
  pub same_top : one.y ≡ other.y
  pub same_height : one.height ≡ other.height
  pub columns : one.x + one.width ≤ other.x

-- row by row, a part comes before another: its rows end before those of the other begin, or it stands left of it
abbrev pub ComesBefore : Part → Part → Type 0
ComesBefore one other = (one.y + one.height ≤ other.y) ⊎ IsLeftOf one other

-- of the parts before a place, each comes before those behind it
abbrev pub AreInOrder : List Part → ℕ → Type 0
AreInOrder parts end =
    (i j : ℕ) (a b : Part) → i < j → j < end → slice_get parts i ≡ Some a → slice_get parts j ≡ Some b → ComesBefore a b
