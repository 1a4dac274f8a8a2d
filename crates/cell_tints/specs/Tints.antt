-- The tints of cells, as those of each cell's first pixel, frame by frame. A tint is by the own kind of enclosure, whatever the states
-- are of which it comes. This is the project's own.
use Rattle.std.specs.Prelude.{ℕ, ◌≡◌, ◌+◌, ◌*◌, ◌<◌, List, length, slice_get, slice_index, Some}
use Rattle.page_model.specs.declared.colour.Tint.{Tint}
use Rattle.page_model.specs.declared.scene.Scene.{Scene}
use Rattle.page_model.specs.declared.setup.Setup.{Setup}
use Rattle.page_model.specs.Cells.{cells_between}
use Rattle.page_model.specs.Enclosure.{LooseState}
use Rattle.page_model.specs.TintOf.{tint_of}
use Rattle.frame_state.specs.declared.types.LayerState.{LayerState}
use Rattle.frame_state.specs.States.{AreInSlots, AreOwn, states_as}
use Rattle.paint_blend.specs.Paint.{IsOrdered}
use Rattle.region_split.specs.Cutting.{Edges, cell_of}

-- a tint is that of a pixel in a frame, by states of the own kind, and has its ends in order
pub record IsOwnTint (scene : Scene) (setup : Setup) (frame column row : ℕ) (tint : Tint) : Type 0 where
  pub states : ℕ → LooseState
  pub own_states : AreOwn scene setup frame states
  pub is : tint ≡ tint_of scene states column row
  pub ordered : IsOrdered tint

-- states are those of all layers in a frame, by the own kind and in their slots
pub record AreStatesIn (scene : Scene) (setup : Setup) (frame : ℕ) (states : List LayerState) : Type 0 where
  pub long : length states ≡ length scene.layers
  pub own_states : AreOwn scene setup frame (states_as states)
  pub ranges : AreInSlots scene (states_as states)

-- how many cells there are
abbrev pub cells_of : Edges → ℕ
cells_of edges = cells_between edges.xs edges.ys

-- so many tints are those of cells in the frames from a start on: frame by frame, and of each frame cell by cell
pub record AreTintsBefore (scene : Scene) (setup : Setup) (edges : Edges) (start count : ℕ) (tints : List Tint) : Type 0 where
  pub all : length tints ≡ count
  pub each : (k i : ℕ) (tint : Tint) → i < cells_of edges → slice_get tints (k * cells_of edges + i) ≡ Some tint
      → IsOwnTint scene setup (start + k) (cell_of edges.xs edges.ys i).x (cell_of edges.xs edges.ys i).y tint

-- tints are those of all cells in so many frames from a start on
abbrev pub AreTintsOfCells : Scene → Setup → Edges → ℕ → ℕ → List Tint → Type 0
AreTintsOfCells scene setup edges start frames tints = AreTintsBefore scene setup edges start (cells_of edges * frames) tints

-- tints are those of the first of some cells in a frame, so many
abbrev pub AreTintsIn : Scene → Setup → Edges → ℕ → List ℕ → ℕ → List Tint → Type 0
AreTintsIn scene setup edges frame chosen count tints =
    (i : ℕ) (tint : Tint) → i < count → slice_get tints i ≡ Some tint
    → IsOwnTint scene setup frame (cell_of edges.xs edges.ys (slice_index chosen i)).x
    (cell_of edges.xs edges.ys (slice_index chosen i)).y tint

-- tints are those of some cells by the states of the layers
abbrev pub AreTintsBy : Scene → Edges → List ℕ → List LayerState → List Tint → Type 0
AreTintsBy scene edges chosen states tints =
    (i : ℕ) (tint : Tint) → slice_get tints i ≡ Some tint
    → tint ≡ tint_of scene (states_as states) (cell_of edges.xs edges.ys (slice_index chosen i)).x
    (cell_of edges.xs edges.ys (slice_index chosen i)).y
