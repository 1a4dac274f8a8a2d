-- The cells into which boxes cut the viewport: rectangles between neighbouring edges. A column is an edge where it is the first
-- one, the viewport's end, or lies inside and is a possible left or right of some box in some frame that is looked at; rows are
-- alike. So two pixels of a cell are covered alike by each box in each of those frames. This is the project's own.
use Rattle.std.specs.Prelude.{ℕ, pos, ◌≡◌, ◌⊎◌, ◌↔◌, ◌-◌, ◌*◌, ◌<◌, ◌≤◌, ◌+ℤ◌, ◌≤ℤ◌, List, length, Contains, Some, slice_get}
use Rattle.std.specs.List.Sorted.{IsStrictlyIncreasing}
use Rattle.page_model.specs.declared.setup.Setup.{Setup}
use Rattle.page_model.specs.declared.scene.Layer.{Layer}
use Rattle.page_model.specs.declared.scene.Scene.{Scene}
use Rattle.page_model.specs.Enclosure.{Kind, Loose, LooseState, LooseRun, IsLooseStateAt}

-- a number is one of those that a loose value may have
pub record IsPossible (loose : Loose) (at : ℕ) : Type 0 where
  pub at_least : loose.lo ≤ℤ pos at
  pub at_most : pos at ≤ℤ loose.hi

-- the end of a box from a loose edge: both together
abbrev pub end_of : Loose → Loose → Loose
end_of from size = record { lo = from.lo +ℤ size.lo; hi = from.hi +ℤ size.hi }

-- a box may begin or end at a column, or at a row
abbrev pub CutsAt : Loose → Loose → ℕ → Type 0
CutsAt from size at = IsPossible from at ⊎ IsPossible (end_of from size) at

-- a run of loose states in the frames below a number, of all layers by a kind
abbrev pub IsLooseRunBelow : Kind → Scene → Setup → ℕ → LooseRun → Type 0
IsLooseRunBelow kind scene setup frames run =
    (frame number : ℕ) (layer : Layer) → frame < frames → slice_get scene.layers number ≡ Some layer
    → IsLooseStateAt kind scene setup frame layer (run frame number)

-- some box begins or ends at a column, or at a row, in a frame that is looked at: below a number for each box
pub record IsCutBy (along across : LooseState → Loose) (run : LooseRun) (scene : Scene) (frames_of : ℕ → ℕ) (at : ℕ) : Type 0 where
  pub box : ℕ
  pub frame : ℕ
  pub is_box : 1 ≤ box
  pub is_layer : box < length scene.layers
  pub looked_at : frame < frames_of box
  pub cuts : CutsAt (along (run frame box)) (across (run frame box)) at

-- a column, or a row, is an edge
pub data IsEdge (size : ℕ) (Cut : ℕ → Type 0) (at : ℕ) : Type 0 where
  first : at ≡ 0 → IsEdge size Cut at
  end : at ≡ size → IsEdge size Cut at
  inside : 0 < at → at < size → Cut at → IsEdge size Cut at

-- these are all the edges, in rising order
pub record AreEdges (size : ℕ) (Cut : ℕ → Type 0) (edges : List ℕ) : Type 0 where
  pub rising : IsStrictlyIncreasing edges
  pub all : (at : ℕ) → (Contains edges at ↔ IsEdge size Cut at)

abbrev pub left_of : LooseState → Loose
left_of state = state.left

abbrev pub width_of : LooseState → Loose
width_of state = state.width

abbrev pub top_of : LooseState → Loose
top_of state = state.top

abbrev pub height_of : LooseState → Loose
height_of state = state.height

-- the edges of a scene both ways, by the states of a run
pub record AreCuts (setup : Setup) (scene : Scene) (frames_of : ℕ → ℕ) (run : LooseRun) (xs ys : List ℕ) : Type 0 where
  pub columns : AreEdges setup.width (IsCutBy left_of width_of run scene frames_of) xs
  pub rows : AreEdges setup.height (IsCutBy top_of height_of run scene frames_of) ys

-- how many cells lie between edges
abbrev pub cells_between : List ℕ → List ℕ → ℕ
cells_between xs ys = (length xs - 1) * (length ys - 1)

-- cells times frames may be at most so many
abbrev pub work_limit : ℕ
work_limit = 4194304

-- by the states of a kind, whatever they are, the cells times the frames are more than that
abbrev pub IsTooMuchWork : Kind → Scene → Setup → ℕ → Type 0
IsTooMuchWork kind scene setup frames =
    (run : LooseRun) (xs ys : List ℕ) → IsLooseRunBelow kind scene setup frames run
    → AreCuts setup scene (λ box. frames) run xs ys → work_limit < cells_between xs ys * frames
