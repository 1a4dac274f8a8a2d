-- What the judgement region by region answers, and what it reckons with: regions that are marked where they are
-- possibly flagged in a window that they need by themselves.
use Rattle.std.specs.Prelude.{ℕ, ℤ, Bool, false, ◌≡◌, ◌↔◌, ◌+◌, ◌*◌, ◌<◌, ◌≤◌, MatchOption, Option, IsTrue, List, length, slice_index_or}
use Rattle.page_model.specs.declared.scene.Scene.{Scene}
use Rattle.page_model.specs.declared.setup.Setup.{Setup}
use Rattle.page_model.specs.Cells.{cells_between}
use Rattle.page_model.specs.SeparateJudgement.{IsJudgedApart, IsNotApart, frame_limit}
use Rattle.flash_count.specs.declared.tracking.Flag.{Flag}
use Rattle.region_parts.specs.Parts.{Parts, no_horizon}
use Rattle.window_area.specs.FlaggedArea.{flagged_area}

-- the separate judgement holds of a scene, with so many frames, or it doesn't
abbrev pub IsJudging : Scene → Setup → Option ℕ → Type 0
IsJudging scene setup found = MatchOption found (IsNotApart scene setup) (λ frames. IsJudgedApart scene setup frames)

-- the frames that the cell of a number needs
abbrev pub needed_at : Parts → ℕ → ℕ
needed_at parts cell =
    (slice_index_or parts.horizons cell no_horizon).settled + (slice_index_or parts.horizons cell no_horizon).period

-- no cell needs more frames than the parts tell of, and those are at most the limit
pub record AreFewFrames (parts : Parts) : Type 0 where
  pub each : (cell : ℕ) → cell < cells_between parts.cuts.xs parts.cuts.ys → needed_at parts cell ≤ parts.frames
  pub few : parts.frames ≤ frame_limit

abbrev pub unflagged : Flag
unflagged = record { possible = false; sure = false }

-- one of so many flags from a place on is a possible one
pub record HasPossible (flags : List Flag) (from needed : ℕ) : Type 0 where
  pub start : ℕ
  pub before : start < needed
  pub possible : IsTrue (slice_index_or flags (from + start) unflagged).possible

-- the first cells, so many, are marked exactly where they have such a flag among those of the windows that they need
abbrev pub AreMarkedBefore : Parts → List Flag → ℕ → List Bool → Type 0
AreMarkedBefore parts flags cells marks =
    (cell : ℕ) → cell < cells
    → (IsTrue (slice_index_or marks cell false) ↔ HasPossible flags (cell * parts.frames) (needed_at parts cell))

-- all cells are
pub record AreMarked (parts : Parts) (flags : List Flag) (marks : List Bool) : Type 0 where
  pub all : length marks ≡ cells_between parts.cuts.xs parts.cuts.ys
  pub each : AreMarkedBefore parts flags (cells_between parts.cuts.xs parts.cuts.ys) marks

-- so many pixels at most does the rectangle hold of cells that are marked so, and so many at some position
pub record IsMostMarked (parts : Parts) (flags : List Flag) (most : ℕ) : Type 0 where
  pub marks : List Bool
  pub are : AreMarked parts flags marks
  pub x : ℤ
  pub y : ℤ
  pub has : flagged_area parts.cuts.xs parts.cuts.ys marks x y ≡ most
  pub most_of : (other_x other_y : ℤ) → flagged_area parts.cuts.xs parts.cuts.ys marks other_x other_y ≤ most
