-- Horizons of cells that are joined with a layer's, of the cells that the layer meets.
use Rattle.std.specs.Prelude.{ℕ, Bool, true, false, ◌≡◌, ◌<◌, ◌≤◌, ◌++◌, List, length}
use Rattle.std.specs.List.{list_any}
use Rattle.page_model.specs.declared.animation.Anim.{Anim}
use Rattle.page_model.specs.declared.setup.Setup.{Setup}
use Rattle.page_model.specs.Cells.{cells_between}
use Rattle.page_model.specs.Horizon.{IsHorizon}
use Rattle.page_model.specs.Time.{HasFrames}
use Rattle.period_frames.specs.declared.frames.Horizon.{Horizon}
use Rattle.period_frames.specs.Needed.{NeedsMore}
use Rattle.period_frames.specs.Repeats.{IsShortHorizon}
use Rattle.region_split.specs.Cutting.{Edges, cell_of}
use Rattle.region_parts.specs.declared.areas.Area.{Area}
use Rattle.region_parts.specs.Meeting.{has_pixel}
use Rattle.region_parts.specs.Needs.{horizon_in}

-- a short horizon of both's animations
pub record IsOfBoth (one other both : Horizon) : Type 0 where
  pub horizon : (setup : Setup) (some more : List Anim) → IsHorizon setup some one.settled one.period
      → IsHorizon setup more other.settled other.period → IsHorizon setup (some ++ more) both.settled both.period
  pub short : IsShortHorizon both

-- there is none
abbrev pub AreTooLong : Horizon → Horizon → Type 0
AreTooLong one other =
    (setup : Setup) (some more : List Anim) → HasFrames setup → IsHorizon setup some one.settled one.period
    → IsHorizon setup more other.settled other.period → NeedsMore setup (some ++ more)

-- so it is where a layer meets a cell, and else nothing changes
abbrev pub IsJoinedWhere : Bool → Horizon → Horizon → Horizon → Type 0
IsJoinedWhere true one own both = IsOfBoth one own both
IsJoinedWhere false one own both = both ≡ one

pub record IsTooLongWhere (met : Bool) (one own : Horizon) : Type 0 where
  pub is_met : met ≡ true
  pub long : AreTooLong one own

-- the first pixel of a cell lies in one of some areas
abbrev pub is_met : Edges → List Area → ℕ → Bool
is_met edges areas cell =
    list_any (has_pixel (cell_of edges.xs edges.ys cell).x (cell_of edges.xs edges.ys cell).y) areas

-- that of some cell lies in an area, or in one of some
pub record MeetsCell (edges : Edges) (area : Area) : Type 0 where
  pub cell : ℕ
  pub known : cell < cells_between edges.xs edges.ys
  pub met : has_pixel (cell_of edges.xs edges.ys cell).x (cell_of edges.xs edges.ys cell).y area ≡ true

pub record MeetSomeCell (edges : Edges) (areas : List Area) : Type 0 where
  pub cell : ℕ
  pub known : cell < cells_between edges.xs edges.ys
  pub met : is_met edges areas cell ≡ true

-- the horizons of the cells before a number are joined, and the others aren't
pub record AreJoinedBefore (edges : Edges) (areas : List Area) (own : Horizon) (number : ℕ)
    (old new : List Horizon) : Type 0 where
  pub as_many : length new ≡ length old
  pub each : (cell : ℕ) → cell < number
      → IsJoinedWhere (is_met edges areas cell) (horizon_in old cell) own (horizon_in new cell)
  pub rest : (cell : ℕ) → number ≤ cell → horizon_in new cell ≡ horizon_in old cell

-- one of them can't be
pub record IsTooLongSomewhere (edges : Edges) (areas : List Area) (own : Horizon) (old : List Horizon) : Type 0 where
  pub cell : ℕ
  pub known : cell < cells_between edges.xs edges.ys
  pub long : IsTooLongWhere (is_met edges areas cell) (horizon_in old cell) own
