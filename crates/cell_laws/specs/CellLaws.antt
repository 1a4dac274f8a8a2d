-- What edges and cells are for: each pixel of the viewport lies in a cell, and each box covers all pixels of a cell alike in each frame
-- that the cell was cut by. The same states cut at the same edges, and it can't be that there are no states to cut by.
use Rattle.std.specs.Prelude.{ℕ, Some, ◌≡◌, ◌<◌, ◌≤◌, List, length, slice_get}
use Rattle.page_model.specs.declared.scene.Layer.{Layer}
use Rattle.page_model.specs.declared.scene.Scene.{Scene}
use Rattle.page_model.specs.declared.setup.Setup.{Setup}
use Rattle.page_model.specs.Cells.{AreCuts, IsLooseRunBelow}
use Rattle.page_model.specs.Enclosure.{IsLooseStateAt, Kind, LooseRun, own}
use Rattle.page_model.specs.SeparateJudgement.{IsInCell}
use Rattle.page_model.specs.TintOf.{covers_surely}
use Rattle.page_model.specs.ValidScene.{IsValid}
use Rattle.state_laws.specs.RunLaws.{IsMet}

-- a box has its own state in a run, in one of the frames that it is cut in
pub record IsBoxCut (scene : Scene) (setup : Setup) (frames_of : ℕ → ℕ) (run : LooseRun) (frame number : ℕ) : Type 0 where
  pub is_box : 1 ≤ number
  pub looked_at : frame < frames_of number
  pub layer : Layer
  pub there : slice_get scene.layers number ≡ Some layer
  pub state : IsLooseStateAt own scene setup frame layer (run frame number)

-- then it covers two pixels of a cell alike
abbrev pub BoxesCoverCellsAlike : Type 0
BoxesCoverCellsAlike =
    (scene : Scene) (setup : Setup) (frames_of : ℕ → ℕ) (run : LooseRun) (xs ys : List ℕ)
    (i j frame number column row other_column other_row : ℕ) → IsValid scene → AreCuts setup scene frames_of run xs ys
    → IsBoxCut scene setup frames_of run frame number → IsInCell xs ys i j column row → IsInCell xs ys i j other_column other_row
    → covers_surely (run frame number) column row ≡ covers_surely (run frame number) other_column other_row

-- each pixel of the viewport lies in a cell
abbrev pub PixelsLieInCells : Type 0
PixelsLieInCells =
    (scene : Scene) (setup : Setup) (frames_of : ℕ → ℕ) (run : LooseRun) (xs ys : List ℕ) (column row : ℕ)
    → AreCuts setup scene frames_of run xs ys → column < setup.width → row < setup.height
    → (i : ℕ) × (j : ℕ) × IsInCell xs ys i j column row

-- two runs have the same states of the boxes in the frames that these are cut in, and both cut them in the same frames
pub record CutAlike (scene : Scene) (frames_of others_of : ℕ → ℕ) (run other : LooseRun) : Type 0 where
  pub frames : (number : ℕ) → number < length scene.layers → frames_of number ≡ others_of number
  pub states : (frame number : ℕ) → number < length scene.layers → frame < frames_of number → run frame number ≡ other frame number

-- then both have the same edges
abbrev pub CutsAreOne : Type 0
CutsAreOne =
    (scene : Scene) (setup : Setup) (frames_of others_of : ℕ → ℕ) (run other : LooseRun) (xs ys other_xs other_ys : List ℕ)
    → CutAlike scene frames_of others_of run other → AreCuts setup scene frames_of run xs ys
    → AreCuts setup scene others_of other other_xs other_ys → (xs ≡ other_xs) × (ys ≡ other_ys)

-- it is impossible that a scene has no run of states by a kind in the frames below a number
abbrev pub RunsExistBelow : Type 0
RunsExistBelow = (kind : Kind) (scene : Scene) (setup : Setup) (frames : ℕ) → IsMet (IsLooseRunBelow kind scene setup frames)
