-- The tints that a tracker looks back on, and what a flag tells of them.
use Rattle.std.specs.Prelude.{ℕ, ◌≡◌, ◌↔◌, ◌-◌, ◌+◌, ◌%◌, ◌<◌, ◌≤◌, IsTrue, Some, [], ◌∷◌, ◌++◌, List, length, drop, map, min, slice_get, slice_index_or}
use Rattle.std.specs.List.{range_with_len}
use Rattle.page_model.specs.declared.colour.Tint.{Tint}
use Rattle.flash_count.specs.declared.tracking.Flag.{Flag}
use Rattle.flash_count.specs.Chains.{HasPossibleChain, HasSureChain}
use Rattle.flash_rows.specs.Rows.{StandsFor}

-- the last items of a list, so many or all
abbrev pub last_of : {C : Type 0} → ℕ → List C → List C
last_of most items = drop (length items - most) items

-- a flag tells of tints whether they have a chain of possible changes, and one of sure ones
pub record Tells (tints : List Tint) (flag : Flag) : Type 0 where
  pub possible : IsTrue flag.possible ↔ HasPossibleChain tints
  pub sure : IsTrue flag.sure ↔ HasSureChain tints

-- the rate, how many tints were pushed, and the last of them: one more than the rate, or all
pub record Tracked : Type 0 where
  pub rate : ℕ
  pub count : ℕ
  pub recent : List Tint

-- before any push
abbrev pub untracked : ℕ → Tracked
untracked rate = record { rate = rate; count = 0; recent = [] }

-- after one push more
abbrev pub pushed : Tint → Tracked → Tracked
pushed tint old = record {
  rate = old.rate;
  count = old.count + 1;
  recent = last_of (old.rate + 1) (old.recent ++ tint ∷ []);
}

-- after the pushes of a list
abbrev pub tracked_after : ℕ → List Tint → Tracked
tracked_after rate tints = record { rate = rate; count = length tints; recent = last_of (rate + 1) tints }

abbrev pub black : Tint
black = record { lo = record { r = 0; g = 0; b = 0 }; hi = record { r = 0; g = 0; b = 0 } }

-- the tint of a frame in a ring of one more than the rate
abbrev pub tint_at : ℕ → List Tint → ℕ → Tint
tint_at rate ring frame = slice_index_or ring (frame % (rate + 1)) black

-- the last tints in a ring, after so many
abbrev pub tints_in : ℕ → ℕ → List Tint → List Tint
tints_in rate count ring = map (tint_at rate ring) (range_with_len (count - min count (rate + 1)) (min count (rate + 1)))

-- a ring holds the last of these tints
pub record HoldsLast (rate : ℕ) (tints ring : List Tint) : Type 0 where
  pub room : rate + 1 ≤ length ring
  pub each : (frame : ℕ) → frame < length tints → length tints ≤ frame + rate + 1
      → slice_get tints frame ≡ Some (tint_at rate ring frame)

-- a row stands for tints, so many, a ring holds the last of them, and a flag tells of these
pub record KeepsTrack (rate count : ℕ) (row : List ℕ) (ring : List Tint) (flag : Flag) : Type 0 where
  pub some : 1 ≤ rate
  pub limit : rate ≤ 240
  pub tints : List Tint
  pub are : length tints ≡ count
  pub stands : StandsFor rate tints row
  pub holds : HoldsLast rate tints ring
  pub tells : Tells (tints_in rate count ring) flag
