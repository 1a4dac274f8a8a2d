-- The nine turns of a part: the first chain of sure changes that a cell's tints make in a window.
use Rattle.std.specs.Prelude.{ℕ, ◌≡◌, ◌+◌, ◌*◌, ◌<◌, List, length, slice_index, slice_index_or, All}
use Rattle.page_model.specs.declared.colour.Tint.{Tint}
use Rattle.page_model.specs.declared.scene.Scene.{Scene}
use Rattle.page_model.specs.declared.setup.Setup.{Setup}
use Rattle.page_model.specs.declared.witness.Part.{Part}
use Rattle.page_model.specs.Red.{white}
use Rattle.page_model.specs.Time.{window_of}
use Rattle.page_model.specs.TintOf.{single}
use Rattle.wide_laws.specs.PaintLaws.{IsPixel}
use Rattle.cell_tints.specs.Tints.{IsOwnTint}
use Rattle.flash_count.specs.declared.tracing.Trace.{Trace}
use Rattle.flash_count.specs.Chains.{IsFirstTrace}

-- what stands for a tint that isn't there
abbrev pub no_tint : Tint
no_tint = single white

-- tints are those of a pixel, in the frames from one on
abbrev pub AreTintsFrom : Scene → Setup → ℕ → ℕ → ℕ → List Tint → Type 0
AreTintsFrom scene setup start column row tints =
    (k : ℕ) → k < length tints → IsOwnTint scene setup (start + k) column row (slice_index_or tints k no_tint)

-- so many tints are those of a cell, of the tints of all cells: frame by frame, and of each frame cell by cell
abbrev pub ArePickedBefore : List Tint → ℕ → ℕ → ℕ → List Tint → Type 0
ArePickedBefore all cells number count tints =
    (k : ℕ) → k < count → slice_index_or tints k no_tint ≡ slice_index_or all (k * cells + number) no_tint

-- each of them is
abbrev pub ArePicked : List Tint → ℕ → ℕ → List Tint → Type 0
ArePicked all cells number tints = ArePickedBefore all cells number (length tints) tints

-- frames and tints are those of the places of a trace, before a turn
pub record AreTurnsBefore (start : ℕ) (tints : List Tint) (places : List ℕ) (count : ℕ) (frames : List ℕ) (told : List Tint) : Type 0 where
  pub frames_are : (turn : ℕ) → turn < count → slice_index frames turn ≡ start + slice_index places turn
  pub tints_are : (turn : ℕ) → turn < count → slice_index_or told turn no_tint ≡ slice_index_or tints (slice_index places turn) no_tint

-- the upper colour of each tint has channels from 0 to 255
abbrev pub AreOfBytes : List Tint → Type 0
AreOfBytes tints = All (λ (tint : Tint). IsPixel tint.hi) tints

-- a part tells the nine frames and tints of a trace
pub record TellsTrace (start : ℕ) (tints : List Tint) (trace : Trace) (part : Part) : Type 0 where
  pub kind : part.kind ≡ trace.kind
  pub nine_frames : length part.frames ≡ 9
  pub nine_tints : length part.tints ≡ 9
  pub turns : AreTurnsBefore start tints trace.places 9 part.frames part.tints

-- the trace is the first chain of a pixel's tints in a window
pub record TellsFirstChain (scene : Scene) (setup : Setup) (start column row : ℕ) (part : Part) : Type 0 where
  pub tints : List Tint
  pub whole : length tints ≡ window_of setup + 1
  pub own_tints : AreTintsFrom scene setup start column row tints
  pub trace : Trace
  pub first : IsFirstTrace tints trace
  pub tells : TellsTrace start tints trace part
