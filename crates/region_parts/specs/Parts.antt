-- The parts of a scene: the cells into which each box cuts the viewport in the frames that it needs by itself, and of
-- each cell the horizon of the layers that meet it. They are what the judgement beyond the common bound looks at, but
-- for what is flagged.
use Rattle.std.specs.Prelude.{ℕ, ◌≡◌, ◌+◌, ◌*◌, ◌<◌, ◌≤◌, List, length, slice_index, slice_index_or, Result, Ok, Err}
use Rattle.page_model.specs.declared.setup.Setup.{Setup}
use Rattle.page_model.specs.declared.animation.Anim.{Anim}
use Rattle.page_model.specs.declared.scene.Scene.{Scene}
use Rattle.page_model.specs.Cells.{AreCuts, IsLooseRunBelow, cells_between, work_limit}
use Rattle.page_model.specs.Enclosure.{LooseRun, own}
use Rattle.page_model.specs.Horizon.{IsNeeded, frames_for}
use Rattle.page_model.specs.SeparateJudgement.{AreNeeded, IsCellNeeded, IsOwnRun, frame_limit}
use Rattle.period_frames.specs.declared.frames.Horizon.{Horizon}
use Rattle.region_split.specs.Cutting.{AreSoundBoth, CoversAlike, Edges, bands}
use Rattle.region_parts.specs.declared.types.PartFault.{PartFault}
use Rattle.region_parts.specs.declared.types.PartFault.TheVariants.{NotApart, NoMemory}

-- the edges, the horizon of each cell, row by row from the top left, and the frames that the cell needs which needs
-- the most
pub record Parts : Type 0 where
  pub cuts : Edges
  pub horizons : List Horizon
  pub frames : ℕ

-- the horizon of a cell at a place among the cells, column by column and row by row, and the frames that it needs
abbrev pub no_horizon : Horizon
no_horizon = record { settled = 0; period = 0 }

abbrev pub horizon_at : Parts → ℕ → ℕ → Horizon
horizon_at parts i j = slice_index_or parts.horizons (j * bands parts.cuts.xs + i) no_horizon

abbrev pub cell_needed : Parts → ℕ → ℕ → ℕ
cell_needed parts i j = (horizon_at parts i j).settled + (horizon_at parts i j).period

-- by the states of a run the viewport is parted: the boxes cut it there, the layers that meet a cell need so many
-- frames, and neither those of a cell nor those of all cells together are too many
pub record IsParted (scene : Scene) (setup : Setup) (run : LooseRun) (xs ys : List ℕ) (cell_needed : ℕ → ℕ → ℕ)
    (greatest : ℕ) : Type 0 where
  pub needed_of : ℕ → ℕ
  pub layers_need : AreNeeded scene setup needed_of
  pub layers_bounded : (number : ℕ) → number < length scene.layers → needed_of number ≤ frame_limit
  pub cuts : AreCuts setup scene needed_of run xs ys
  pub cells_need : (i j : ℕ) → i + 1 < length xs → j + 1 < length ys
      → IsCellNeeded scene setup run needed_of (slice_index xs i) (slice_index ys j) (cell_needed i j)
  pub is_greatest : (i j : ℕ) → i + 1 < length xs → j + 1 < length ys → cell_needed i j ≤ greatest
  pub is_some : (i : ℕ) × (j : ℕ) × (i + 1 < length xs) × (j + 1 < length ys) × (cell_needed i j ≡ greatest)
  pub cells_bounded : greatest ≤ frame_limit
  pub work_bounded : cells_between xs ys * frames_for setup greatest ≤ work_limit

-- needed frames are those of a horizon
pub record IsOfHorizon (setup : Setup) (anims : List Anim) (needed : ℕ) (is : IsNeeded setup anims needed)
    (horizon : Horizon) : Type 0 where
  pub settled_is : is.settled ≡ horizon.settled
  pub period_is : is.period ≡ horizon.period

-- it is parted into these parts
pub record IsPartedBy (scene : Scene) (setup : Setup) (run : LooseRun) (parts : Parts) : Type 0 where
  pub parted : IsParted scene setup run parts.cuts.xs parts.cuts.ys (cell_needed parts) parts.frames
  pub horizons_are : (i j : ℕ) (column : i + 1 < length parts.cuts.xs) (row : j + 1 < length parts.cuts.ys)
      → IsOfHorizon setup _ (cell_needed parts i j) (parted.cells_need i j column row).needed_is (horizon_at parts i j)

-- so it is by the states of the own kind, whatever they are; and in any frames each layer covers two pixels of one
-- cell alike
pub record ArePartsOf (scene : Scene) (setup : Setup) (parts : Parts) : Type 0 where
  pub sound : AreSoundBoth parts.cuts.xs parts.cuts.ys
  pub one_each : length parts.horizons ≡ cells_between parts.cuts.xs parts.cuts.ys
  pub few : parts.frames ≤ frame_limit
  pub few_enough : cells_between parts.cuts.xs parts.cuts.ys * frames_for setup parts.frames ≤ work_limit
  pub by_run : (run : LooseRun) → IsOwnRun scene setup run → IsPartedBy scene setup run parts
  pub alike : (frames : ℕ) (run : LooseRun) → IsLooseRunBelow own scene setup frames run
      → CoversAlike scene frames parts.cuts.xs parts.cuts.ys run

-- or it isn't, whatever they are
abbrev pub CanNotBeParted : Scene → Setup → Type 0
CanNotBeParted scene setup =
    (run : LooseRun) (xs ys : List ℕ) (cell_needed : ℕ → ℕ → ℕ) (greatest : ℕ) → IsOwnRun scene setup run
    → IsParted scene setup run xs ys cell_needed greatest → ⊥

-- what parting a scene answers
abbrev pub IsParting : Scene → Setup → Result Parts PartFault → Type 0
IsParting scene setup (Ok parts) = ArePartsOf scene setup parts
IsParting scene setup (Err NotApart) = CanNotBeParted scene setup
IsParting scene setup (Err NoMemory) = Unit {0}
