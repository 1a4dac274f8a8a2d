-- From which box on a pixel is painted, and up to which: one hides what lies under it, or all count, and those between it and the
-- first place, and those from the end on, surely aren't there.
use Rattle.std.specs.Prelude.{ℕ, Option, Some, None, ◌+◌, ◌<◌, ◌≤◌, List, length, slice_index}
use Rattle.frame_state.specs.declared.types.LayerState.{LayerState}
use Rattle.frame_state.specs.States.{states_as}
use Rattle.paint_blend.specs.declared.topmost.Seen.{Seen}
use Rattle.paint_blend.specs.Paint.{HidesAt, IsMissed}

-- the boxes at these places surely aren't at the pixel
abbrev pub AreMissed : List LayerState → List ℕ → ℕ → ℕ → ℕ → ℕ → Type 0
AreMissed states boxes column row first last =
    (place : ℕ) → first ≤ place → place < last → IsMissed (states_as states (slice_index boxes place)) column row

-- where the painting begins, and up to which place boxes are missed from there
pub record BeginsAt (states : List LayerState) (boxes : List ℕ) (column row place first : ℕ) : Type 0 where
  pub hides : HidesAt (states_as states (slice_index boxes place)) column row
  pub before : place < first
  pub missed : AreMissed states boxes column row (place + 1) first

abbrev pub Begins : List LayerState → List ℕ → ℕ → ℕ → Option ℕ → ℕ → Type 0
Begins states boxes column row (Some place) first = BeginsAt states boxes column row place first
Begins states boxes column row None first = AreMissed states boxes column row 0 first

pub record IsSeen (states : List LayerState) (boxes : List ℕ) (column row : ℕ) (seen : Seen) : Type 0 where
  pub begins : Begins states boxes column row seen.hiding seen.first
  pub order : seen.first ≤ seen.end
  pub inside : seen.end ≤ length boxes
  pub missed : AreMissed states boxes column row seen.end (length boxes)
