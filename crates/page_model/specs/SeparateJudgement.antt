-- A judgement beyond the common bound: each part of the viewport by the frames that its own boxes need. Where the whole page needs
-- too many frames, the viewport is cut by each box in the frames that its own animations need, each cell is looked at in the
-- frames that the layers which meet it need, and if the pixels that are possibly flagged in any window of their own cell nowhere
-- fill more than a quarter of the rectangle, no window of the page is bad. This is the project's own.
use Rattle.std.specs.Prelude.{ℕ, ℤ, Bool, Some, ◌≡◌, ◌≢◌, ◌⊎◌, ◌↔◌, ◌+◌, ◌*◌, ◌<◌, ◌≤◌, List, length, slice_get, slice_index, IsSome}
use Rattle.std.specs.List.{items_where_true}
use Rattle.page_model.specs.declared.setup.Setup.{Setup}
use Rattle.page_model.specs.declared.scene.Layer.{Layer}
use Rattle.page_model.specs.declared.scene.Scene.{Scene}
use Rattle.page_model.specs.Cells.{AreCuts, IsLooseRunBelow, cells_between, work_limit}
use Rattle.page_model.specs.Colour.{body_colour}
use Rattle.page_model.specs.Enclosure.{LooseRun, own, surely_not}
use Rattle.page_model.specs.Flash.{HasManyFlagged}
use Rattle.page_model.specs.Horizon.{IsNeeded, animations_of, all_animations, frames_for}
use Rattle.page_model.specs.TintOf.{covers_surely, tints_of}
use Rattle.page_model.specs.Window.{IsPossiblyFlagged}

-- so many frames may be needed
abbrev pub frame_limit : ℕ
frame_limit = 100000

-- a run of loose states, of all layers by the own kind, in all frames that may be needed
abbrev pub IsOwnRun : Scene → Setup → LooseRun → Type 0
IsOwnRun scene setup run = IsLooseRunBelow own scene setup (frames_for setup frame_limit) run

-- a number of needed frames for each layer
abbrev pub AreNeeded : Scene → Setup → (ℕ → ℕ) → Type 0
AreNeeded scene setup needed_of =
    (number : ℕ) (layer : Layer) → slice_get scene.layers number ≡ Some layer → IsNeeded setup layer.anims (needed_of number)

-- A box meets the cell with this first pixel: in a frame that it needs it may be shown there.
pub record BoxMeets (run : LooseRun) (needed box column row : ℕ) : Type 0 where
  pub frame : ℕ
  pub needed_frame : frame < needed
  pub shown : (run frame box).shown ≢ surely_not
  pub covers : covers_surely (run frame box) column row ≢ surely_not

-- a layer meets a cell: the body where it has a colour, a box as above
abbrev pub Meets : Scene → LooseRun → (ℕ → ℕ) → ℕ → ℕ → ℕ → Type 0
Meets scene run needed_of number column row =
    ((number ≡ 0) × IsSome (body_colour scene)) ⊎ ((1 ≤ number) × BoxMeets run (needed_of number) number column row)

-- the layers that meet a cell, as a mark for each, and the frames that they need
pub record IsCellNeeded (scene : Scene) (setup : Setup) (run : LooseRun) (needed_of : ℕ → ℕ) (column row needed : ℕ) : Type 0 where
  pub marks : List Bool
  pub one_each : length marks ≡ length scene.layers
  pub meets : (number : ℕ) → number < length scene.layers
      → ((slice_get marks number ≡ Some Bool.true) ↔ Meets scene run needed_of number column row)
  pub needed_is : IsNeeded setup (animations_of (items_where_true marks scene.layers)) needed

-- a pixel lies in the cell at a place among the cells, column by column and row by row
pub record IsInCell (xs ys : List ℕ) (i j column row : ℕ) : Type 0 where
  pub is_column : i + 1 < length xs
  pub is_row : j + 1 < length ys
  pub right_of : slice_index xs i ≤ column
  pub left_of : column < slice_index xs (i + 1)
  pub below : slice_index ys j ≤ row
  pub above : row < slice_index ys (j + 1)

-- a pixel is possibly flagged in a window that its own cell needs
pub record IsFlaggedInCell (scene : Scene) (setup : Setup) (run : LooseRun) (xs ys : List ℕ) (cell_needed : ℕ → ℕ → ℕ) (column row : ℕ) : Type 0 where
  pub i : ℕ
  pub j : ℕ
  pub cell : IsInCell xs ys i j column row
  pub start : ℕ
  pub needed : start < cell_needed i j
  pub flagged : IsPossiblyFlagged own (tints_of scene run) setup start column row

-- by the states of a run the separate judgement holds of a scene, and no cell needs more frames than so many
pub record IsSeparatelySafe (scene : Scene) (setup : Setup) (run : LooseRun) (greatest : ℕ) : Type 0 where
  pub beyond : (needed : ℕ) → IsNeeded setup (all_animations scene) needed → frame_limit < needed
  pub needed_of : ℕ → ℕ
  pub layers_need : AreNeeded scene setup needed_of
  pub layers_bounded : (number : ℕ) → number < length scene.layers → needed_of number ≤ frame_limit
  pub xs : List ℕ
  pub ys : List ℕ
  pub cuts : AreCuts setup scene needed_of run xs ys
  pub cell_needed : ℕ → ℕ → ℕ
  pub cells_need : (i j : ℕ) → i + 1 < length xs → j + 1 < length ys
      → IsCellNeeded scene setup run needed_of (slice_index xs i) (slice_index ys j) (cell_needed i j)
  pub is_greatest : (i j : ℕ) → i + 1 < length xs → j + 1 < length ys → cell_needed i j ≤ greatest
  pub is_some : (i : ℕ) × (j : ℕ) × (i + 1 < length xs) × (j + 1 < length ys) × (cell_needed i j ≡ greatest)
  pub cells_bounded : greatest ≤ frame_limit
  pub work_bounded : cells_between xs ys * frames_for setup greatest ≤ work_limit
  pub few_flagged : (x y : ℤ) → HasManyFlagged (IsFlaggedInCell scene setup run xs ys cell_needed) setup x y → ⊥

-- it holds, or it doesn't, by the states of the own kind, whatever they are
abbrev pub IsJudgedApart : Scene → Setup → ℕ → Type 0
IsJudgedApart scene setup greatest = (run : LooseRun) → IsOwnRun scene setup run → IsSeparatelySafe scene setup run greatest

abbrev pub IsNotApart : Scene → Setup → Type 0
IsNotApart scene setup = (run : LooseRun) (greatest : ℕ) → IsOwnRun scene setup run → IsSeparatelySafe scene setup run greatest → ⊥
