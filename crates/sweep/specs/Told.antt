-- What the flags of all cells in a window tell.
use Rattle.std.specs.Prelude.{ℕ, ℤ, Bool, false, ◌≡◌, ◌<◌, MatchOption, Option, None, Some, List, length, map, slice_index, slice_index_or}
use Rattle.page_model.specs.declared.witness.BadWindow.{BadWindow}
use Rattle.page_model.specs.Cells.{cells_between}
use Rattle.cell_flags.specs.Marks.{IsBest}
use Rattle.cell_groups.specs.Groups.{Grouping, group_of}
use Rattle.flash_count.specs.declared.tracking.Flag.{Flag}
use Rattle.region_split.specs.Cutting.{Edges}
use Rattle.window_area.specs.FlaggedArea.{HoldsAtMost}
use Rattle.sweep.specs.declared.windows.Found.{Found}
use Rattle.sweep.specs.declared.windows.Sort.{Sort}
use Rattle.sweep.specs.declared.windows.Sort.TheVariants.{Possible, Sure}

abbrev pub told : Sort → Flag → Bool
told Possible flag = flag.possible
told Sure flag = flag.sure

abbrev pub unflagged : Flag
unflagged = record { possible = false; sure = false }

-- the flags of all cells, by those of their groups
abbrev pub spread : Grouping → List Flag → List Flag
spread groups flags = map (λ group. slice_index_or flags group unflagged) groups.of

-- each cell has a group, and each group a flag
pub record HaveFlags (edges : Edges) (groups : Grouping) (flags : List Flag) : Type 0 where
  pub all : length groups.of ≡ cells_between edges.xs edges.ys
  pub each : (cell : ℕ) → cell < cells_between edges.xs edges.ys → group_of groups cell < length flags

-- marks are the flags of the first cells
abbrev pub AreMarksBefore : Sort → List Flag → ℕ → List Bool → Type 0
AreMarksBefore sort flags cells marks =
    (cell : ℕ) → cell < cells → slice_index_or marks cell false ≡ told sort (slice_index_or flags cell unflagged)

-- marks are the flags of the groups of the first cells
abbrev pub AreMarksOf : Sort → List ℕ → List Flag → ℕ → List Bool → Type 0
AreMarksOf sort groups flags cells marks =
    (cell : ℕ) → cell < cells
    → slice_index_or marks cell false ≡ told sort (slice_index_or flags (slice_index groups cell) unflagged)

-- marks are the flags of all cells
pub record AreMarks (sort : Sort) (edges : Edges) (flags : List Flag) (marks : List Bool) : Type 0 where
  pub all : length marks ≡ cells_between edges.xs edges.ys
  pub each : AreMarksBefore sort flags (cells_between edges.xs edges.ys) marks

-- this is the most that the rectangle holds of flagged cells, and where it does first
pub record IsBestOf (sort : Sort) (edges : Edges) (flags : List Flag) (most : ℕ) (x y : ℤ) : Type 0 where
  pub marks : List Bool
  pub are : AreMarks sort edges flags marks
  pub best : IsBest edges marks most x y

-- more than a quarter is flagged, or at most that
pub record AreMany (sort : Sort) (edges : Edges) (flags : List Flag) (x y : ℤ) : Type 0 where
  pub most : ℕ
  pub best : IsBestOf sort edges flags most x y
  pub many : 21824 < most

pub record AreFew (sort : Sort) (edges : Edges) (flags : List Flag) : Type 0 where
  pub marks : List Bool
  pub are : AreMarks sort edges flags marks
  pub few : HoldsAtMost edges.xs edges.ys marks 21824

-- a window that is told has many flags, and starts at a frame
pub record IsManyAt (sort : Sort) (edges : Edges) (flags : List Flag) (start : ℕ) (window : BadWindow) : Type 0 where
  pub start_is : window.start ≡ start
  pub many : AreMany sort edges flags window.x window.y

-- the window in which these are the flags of all cells, where they are many, or none
abbrev pub IsFinding : Sort → Edges → List Flag → ℕ → Option BadWindow → Type 0
IsFinding sort edges flags start found = MatchOption found (AreFew sort edges flags) (IsManyAt sort edges flags start)

-- what was found stays, and where nothing was, this window is looked at
abbrev pub IsLookedAt : Sort → Edges → List Flag → ℕ → Option BadWindow → Option BadWindow → Type 0
IsLookedAt sort edges flags start None new = IsFinding sort edges flags start new
IsLookedAt sort edges flags start (Some window) new = new ≡ Some window

-- so it is for both sorts
pub record AreLookedAt (edges : Edges) (flags : List Flag) (start : ℕ) (before after : Found) : Type 0 where
  pub sure : IsLookedAt Sure edges flags start before.sure after.sure
  pub possible : IsLookedAt Possible edges flags start before.possible after.possible
