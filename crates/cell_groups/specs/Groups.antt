-- Groups of cells whose pixels are covered alike. This is the project's own.
use Rattle.std.specs.Prelude.{ℕ, ◌≡◌, ◌<◌, ◌≤◌, List, [], length, slice_get, slice_index, Some}
use Rattle.page_model.specs.declared.scene.Layer.{Layer}
use Rattle.page_model.specs.declared.scene.Scene.{Scene}
use Rattle.page_model.specs.declared.setup.Setup.{Setup}
use Rattle.page_model.specs.Cells.{cells_between}
use Rattle.page_model.specs.Enclosure.{IsLooseStateAt, LooseState, own}
use Rattle.page_model.specs.TintOf.{covers_surely}
use Rattle.region_split.specs.Cutting.{Edges, cell_of}

-- the group of each cell, and the first cell of each group
pub record Grouping : Type 0 where
  pub of : List ℕ
  pub firsts : List ℕ

abbrev pub group_of : Grouping → ℕ → ℕ
group_of groups cell = slice_index groups.of cell

abbrev pub first_of : Grouping → ℕ → ℕ
first_of groups group = slice_index groups.firsts group

-- in each of so many frames a box covers two pixels alike, whatever its states of the own kind are
abbrev pub BoxCoversAlike : Scene → Setup → ℕ → Layer → ℕ → ℕ → ℕ → ℕ → Type 0
BoxCoversAlike scene setup frames layer column row other_column other_row =
    (frame : ℕ) (state : LooseState) → frame < frames → IsLooseStateAt own scene setup frame layer state
    → covers_surely state column row ≡ covers_surely state other_column other_row

-- each box does
abbrev pub AreCoveredAlike : Scene → Setup → ℕ → ℕ → ℕ → ℕ → ℕ → Type 0
AreCoveredAlike scene setup frames column row other_column other_row =
    (number : ℕ) (layer : Layer) → 1 ≤ number → slice_get scene.layers number ≡ Some layer
    → BoxCoversAlike scene setup frames layer column row other_column other_row

-- so it is with the first pixels of two cells
abbrev pub LookAlike : Scene → Setup → ℕ → Edges → ℕ → ℕ → Type 0
LookAlike scene setup frames edges cell other =
    AreCoveredAlike scene setup frames (cell_of edges.xs edges.ys cell).x (cell_of edges.xs edges.ys cell).y
    (cell_of edges.xs edges.ys other).x (cell_of edges.xs edges.ys other).y

-- each of the cells before a number looks like the first cell of its group, which is one of them
pub record AreGroupsBefore (scene : Scene) (setup : Setup) (frames : ℕ) (edges : Edges) (cells : ℕ) (groups : Grouping) : Type 0 where
  pub all : length groups.of ≡ cells
  pub few : length groups.firsts ≤ cells
  pub known : (cell : ℕ) → cell < cells → group_of groups cell < length groups.firsts
  pub firsts_known : (group : ℕ) → group < length groups.firsts → first_of groups group < cells
  pub alike : (cell : ℕ) → cell < cells → LookAlike scene setup frames edges cell (first_of groups (group_of groups cell))

-- so does each cell
abbrev pub AreGroups : Scene → Setup → ℕ → Edges → Grouping → Type 0
AreGroups scene setup frames edges groups = AreGroupsBefore scene setup frames edges (cells_between edges.xs edges.ys) groups

-- no groups, of no cells
abbrev pub no_groups : Grouping
no_groups = record { of = []; firsts = [] }
