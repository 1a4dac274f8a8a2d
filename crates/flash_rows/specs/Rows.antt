-- Rows of words that stand for the tints of a pixel. Of each of the last frames of a list, as many as the rate or all, a row holds
-- nine words side by side, and behind them the bounds between which their tints lie, and where the latest chains start that ended. The first has the frame's tint in its six lower bytes, and behind it how many
-- frames up to it have this tint in a row. Each other belongs to a change: its eight bytes say,
-- for one change up to eight, where the latest chain of so many changes starts that ends at the frame, and ends with this change.
use Rattle.std.specs.Prelude.{ℕ, ◌≡◌, ◌+◌, ◌-◌, ◌*◌, ◌%◌, ◌<◌, ◌≤◌, Bool, false, true, Some, List, length, slice_get, slice_index}
pub use Rattle.byte_lanes.specs.Bytes.{byte, number_of}
use Rattle.page_model.specs.declared.colour.Tint.{Tint}
use Rattle.tint_changes.specs.declared.changes.Change.{Change}
use Rattle.tint_changes.specs.declared.changes.Change.TheVariants.{PossibleRise, PossibleFall, SureRise, SureFall, PossiblyIntoRed, PossiblyOutOfRed, SurelyIntoRed, SurelyOutOfRed}
use Rattle.tint_changes.specs.Counting.{MakesAt}
use Rattle.flash_rows.specs.declared.ended.Ended.{Ended}
use Rattle.flash_rows.specs.Bounds.{AreWithin, bounds_at}
use Rattle.flash_rows.specs.Starts.{IsLatest, Leads}

-- the change that is opposed to another
abbrev pub opposite_of : Change → Change
opposite_of PossibleRise = PossibleFall
opposite_of PossibleFall = PossibleRise
opposite_of SureRise = SureFall
opposite_of SureFall = SureRise
opposite_of PossiblyIntoRed = PossiblyOutOfRed
opposite_of PossiblyOutOfRed = PossiblyIntoRed
opposite_of SurelyIntoRed = SurelyOutOfRed
opposite_of SurelyOutOfRed = SurelyIntoRed

-- a change is one of all colours of two tints, and not of some
abbrev pub is_sure : Change → Bool
is_sure PossibleRise = false
is_sure PossibleFall = false
is_sure SureRise = true
is_sure SureFall = true
is_sure PossiblyIntoRed = false
is_sure PossiblyOutOfRed = false
is_sure SurelyIntoRed = true
is_sure SurelyOutOfRed = true

-- the place among a frame's nine words of that of a change
abbrev pub column_of : Change → ℕ
column_of PossibleRise = 1
column_of PossibleFall = 2
column_of SureRise = 3
column_of SureFall = 4
column_of PossiblyIntoRed = 5
column_of PossiblyOutOfRed = 6
column_of SurelyIntoRed = 7
column_of SurelyOutOfRed = 8

-- the tint in a frame's first word
abbrev pub tint_in : ℕ → Tint
tint_in word = record {
  lo = record { r = byte word 0; g = byte word 1; b = byte word 2 };
  hi = record { r = byte word 3; g = byte word 4; b = byte word 5 };
}

-- so many changes of a list of tints lead from a start to a frame, and the last is this one
abbrev pub EndsWith : Change → List Tint → ℕ → ℕ → ℕ → Type 0
EndsWith change tints n frame start = Leads (MakesAt change tints) (MakesAt (opposite_of change) tints) n start frame

-- a chain of eight changes, sure ones or possible ones, starts at a frame and ends before another
pub record EndsBefore (sure : Bool) (tints : List Tint) (frame start : ℕ) : Type 0 where
  pub end : ℕ
  pub change : Change
  pub sort : is_sure change ≡ sure
  pub before : end < frame
  pub ends : EndsWith change tints 8 end start

-- the tint of a frame is that of so many frames up to it, which follow one another
pub record HasRun (tints : List Tint) (frame run : ℕ) : Type 0 where
  pub some : 1 ≤ run
  pub inside : run ≤ frame + 1
  pub alike : (back : ℕ) → back < run → slice_get tints (frame - back) ≡ slice_get tints frame

-- nine words tell of a frame: its tint, and of how many frames up to it; and where the latest chains start that end at it
pub record TellsOf (rate : ℕ) (tints : List Tint) (frame : ℕ) (word : ℕ → ℕ) : Type 0 where
  pub tint : slice_get tints frame ≡ Some (tint_in (word 0))
  pub run : HasRun tints frame (byte (word 0) 6)
  pub starts : (change : Change) (n : ℕ) → n ≤ 8
      → IsLatest (EndsWith change tints n frame) rate frame (number_of (word (column_of change)) n)

-- two numbers say where the latest chain of eight possible changes starts, and the latest of sure ones
abbrev pub ended_in : ℕ → Ended
ended_in word = record { possible = byte word 0; sure = byte word 1 }

-- they do of chains that end before a frame, as another one sees them
pub record AreEnded (rate : ℕ) (tints : List Tint) (limit frame : ℕ) (ended : Ended) : Type 0 where
  pub possible : IsLatest (EndsBefore false tints limit) rate frame ended.possible
  pub sure : IsLatest (EndsBefore true tints limit) rate frame ended.sure

-- the words of a frame in a row for a rate: each frame takes the place of that of a window before
abbrev pub words_at : ℕ → List ℕ → ℕ → ℕ → ℕ
words_at rate row frame i = slice_index row (9 * (frame % rate) + i)

-- a row stands at a rate for a list of tints
pub record StandsFor (rate : ℕ) (tints : List Tint) (row : List ℕ) : Type 0 where
  pub room : 9 * (rate + 1) ≤ length row
  pub tells : (frame : ℕ) → frame < length tints → length tints ≤ frame + rate
      → TellsOf rate tints frame (words_at rate row frame)
  pub within : AreWithin rate tints (bounds_at rate row)
  pub ended : AreEnded rate tints (length tints) (length tints) (ended_in (slice_index row (9 * rate + 3)))
