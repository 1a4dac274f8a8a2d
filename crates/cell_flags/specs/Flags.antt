-- The flags of pixels in windows, as the tints of each cell's first pixel tell them. A flag speaks of the tints of a pixel by the own
-- kind of enclosure, whatever the states are of which they come.
use Rattle.std.specs.Prelude.{ℕ, ◌≡◌, ◌↔◌, ◌+◌, ◌*◌, ◌<◌, ◌≤◌, IsTrue, List, length, slice_get, Some}
use Rattle.page_model.specs.declared.setup.Setup.{Setup}
use Rattle.page_model.specs.declared.colour.Tint.{Tint}
use Rattle.page_model.specs.declared.scene.Scene.{Scene}
use Rattle.page_model.specs.Cells.{IsLooseRunBelow, cells_between, work_limit}
use Rattle.page_model.specs.Enclosure.{LooseRun, own}
use Rattle.page_model.specs.Time.{window_of}
use Rattle.page_model.specs.TintOf.{IsLooseRunIn, tints_of}
use Rattle.page_model.specs.Window.{IsPossiblyFlagged, IsSurelyFlagged}
use Rattle.flash_count.specs.declared.tracking.Flag.{Flag}
use Rattle.flash_count.specs.Tracked.{Tells, Tracked, tracked_after}
use Rattle.region_split.specs.declared.types.Rect.{Rect}
use Rattle.region_split.specs.Cutting.{AreSoundBoth, CoversAlike, Edges, IsInside, cell_of}
use Rattle.cell_tints.specs.Tints.{IsOwnTint}

-- each layer covers two pixels of one cell alike in so many frames, whatever its states of the own kind are, and cells times frames
-- aren't too many
pub record AreAlikeCells (scene : Scene) (setup : Setup) (frames : ℕ) (edges : Edges) : Type 0 where
  pub sound : AreSoundBoth edges.xs edges.ys
  pub alike : (run : LooseRun) → IsLooseRunBelow own scene setup frames run → CoversAlike scene frames edges.xs edges.ys run
  pub few_enough : cells_between edges.xs edges.ys * frames ≤ work_limit

-- with the states of the own kind, whatever they are, a flag is that of each pixel of a rectangle in a window
pub record IsFlagOf (scene : Scene) (setup : Setup) (start : ℕ) (rect : Rect) (flag : Flag) : Type 0 where
  pub possible : (run : LooseRun) (column row : ℕ) → IsLooseRunIn own scene setup start run → IsInside rect column row
      → (IsTrue flag.possible ↔ IsPossiblyFlagged own (tints_of scene run) setup start column row)
  pub sure : (run : LooseRun) (column row : ℕ) → IsLooseRunIn own scene setup start run → IsInside rect column row
      → (IsTrue flag.sure ↔ IsSurelyFlagged own (tints_of scene run) setup start column row)

-- the flags of all cells in so many windows, the first of which begins at frame 0: cell by cell, and of each window by window
pub record AreFlags (scene : Scene) (setup : Setup) (edges : Edges) (windows : ℕ) (flags : List Flag) : Type 0 where
  pub all : length flags ≡ cells_between edges.xs edges.ys * windows
  pub each : (cell start : ℕ) (flag : Flag) → cell < cells_between edges.xs edges.ys → start < windows
      → slice_get flags (cell * windows + start) ≡ Some flag → IsFlagOf scene setup start (cell_of edges.xs edges.ys cell) flag

-- the first pixel of a rectangle was seen so, frame by frame from frame 0 on
abbrev pub AreSeenAs : Scene → Setup → Rect → List Tint → Type 0
AreSeenAs scene setup rect seen =
    (frame : ℕ) (tint : Tint) → slice_get seen frame ≡ Some tint → IsOwnTint scene setup frame rect.x rect.y tint

-- it was seen so in a window, from its first frame to its last
pub record IsWindowSeen (scene : Scene) (setup : Setup) (start : ℕ) (rect : Rect) (seen : List Tint) : Type 0 where
  pub whole : length seen ≡ window_of setup + 1
  pub each : (k : ℕ) (tint : Tint) → slice_get seen k ≡ Some tint → IsOwnTint scene setup (start + k) rect.x rect.y tint

-- tints are those of a cell in some frames from a start on, of a list that has the tints of so many cells frame by frame
abbrev pub AreSeenOf : List Tint → ℕ → ℕ → ℕ → List Tint → Type 0
AreSeenOf tints cells cell start seen =
    (k : ℕ) (tint : Tint) → slice_get seen k ≡ Some tint → slice_get tints ((start + k) * cells + cell) ≡ Some tint

-- a tracker has seen the tints of a cell in so many frames
pub record IsTracking (tints : List Tint) (cells cell rate frames : ℕ) (tracker : Tracked) : Type 0 where
  pub seen : List Tint
  pub count : length seen ≡ frames
  pub is : tracker ≡ tracked_after rate seen
  pub each : AreSeenOf tints cells cell 0 seen

-- a flag is that of the cell's tints in a window
pub record IsFlagAt (tints : List Tint) (cells cell rate start : ℕ) (flag : Flag) : Type 0 where
  pub seen : List Tint
  pub whole : length seen ≡ rate + 1
  pub each : AreSeenOf tints cells cell start seen
  pub tells : Tells seen flag

-- flags are added behind others: those of a cell in so many windows
pub record AddsFlags (tints : List Tint) (cells cell rate windows : ℕ) (old new : List Flag) : Type 0 where
  pub more : length new ≡ length old + windows
  pub kept : (k : ℕ) → k < length old → slice_get new k ≡ slice_get old k
  pub each : (start : ℕ) (flag : Flag) → start < windows → slice_get new (length old + start) ≡ Some flag
      → IsFlagAt tints cells cell rate start flag

-- the flags of the first cells, cell by cell, and of each window by window
pub record AreFlagsBefore (tints : List Tint) (cells rate windows before : ℕ) (flags : List Flag) : Type 0 where
  pub all : length flags ≡ before * windows
  pub each : (cell start : ℕ) (flag : Flag) → cell < before → start < windows → slice_get flags (cell * windows + start) ≡ Some flag
      → IsFlagAt tints cells cell rate start flag
