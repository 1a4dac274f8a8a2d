-- How a cell is added to the groups: by the homes of the boxes.
use Rattle.std.specs.Prelude.{ℕ, ◌⊎◌, ◌≡◌, ◌-◌, ◌<◌, ◌≤◌, ◌++◌, ◌∷◌, [], List, length}
use Rattle.region_split.specs.Cutting.{Edges, bands, cell_of}
use Rattle.cell_groups.specs.declared.homes.Home.{Home}
use Rattle.cell_groups.specs.Groups.{Grouping, group_of}
use Rattle.cell_groups.specs.Homes.{TellAlike}

-- the homes tell that the first pixels of two cells are covered alike
abbrev pub AreToldAlike : List Home → Edges → ℕ → ℕ → Type 0
AreToldAlike homes edges cell other =
    TellAlike homes (cell_of edges.xs edges.ys cell).x (cell_of edges.xs edges.ys cell).y
    (cell_of edges.xs edges.ys other).x (cell_of edges.xs edges.ys other).y

-- a cell before another, of which they do
pub record IsNeighbour (homes : List Home) (edges : Edges) (cell neighbour : ℕ) : Type 0 where
  pub before : neighbour < cell
  pub alike : AreToldAlike homes edges cell neighbour

-- they do of neither the cell before, nor of the one above
pub record IsAlone (homes : List Home) (edges : Edges) (cell : ℕ) : Type 0 where
  pub beside : 1 ≤ cell → AreToldAlike homes edges cell (cell - 1) → ⊥
  pub above : bands edges.xs ≤ cell → AreToldAlike homes edges cell (cell - bands edges.xs) → ⊥

-- a cell is added to the group of such a cell, or else begins one
pub record Joins (homes : List Home) (edges : Edges) (cell : ℕ) (old new : Grouping) : Type 0 where
  pub neighbour : ℕ
  pub is : IsNeighbour homes edges cell neighbour
  pub group : new.of ≡ old.of ++ group_of old neighbour ∷ []
  pub firsts : new.firsts ≡ old.firsts

pub record Begins (homes : List Home) (edges : Edges) (cell : ℕ) (old new : Grouping) : Type 0 where
  pub is : IsAlone homes edges cell
  pub group : new.of ≡ old.of ++ length old.firsts ∷ []
  pub firsts : new.firsts ≡ old.firsts ++ cell ∷ []

abbrev pub AddsCell : List Home → Edges → ℕ → Grouping → Grouping → Type 0
AddsCell homes edges cell old new = Joins homes edges cell old new ⊎ Begins homes edges cell old new
