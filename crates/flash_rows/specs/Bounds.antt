-- Between which bounds the tints of a row lie: the least and the greatest luminance of their ends, and a mark that is 0 only where no
-- corner of them is saturated. They stand in a row behind the words of its frames.
use Rattle.std.specs.Prelude.{ℕ, zero, suc, ◌≡◌, ◌+◌, ◌-◌, ◌*◌, ◌^◌, ◌<◌, ◌≤◌, Bool, true, false, Some, List, length, max, min, slice_get, slice_index}
use Rattle.page_model.specs.declared.colour.Tint.{Tint}
use Rattle.page_model.specs.Change.{HasSaturated}
use Rattle.page_model.specs.Light.{luma_of}
use Rattle.tint_changes.specs.declared.made.NextTint.{NextTint}
use Rattle.flash_rows.specs.declared.bounds.Bounds.{Bounds}

-- a tint lies within bounds
pub record LiesWithin (bounds : Bounds) (tint : Tint) : Type 0 where
  pub lower_least : bounds.least ≤ luma_of tint.lo
  pub upper_least : bounds.least ≤ luma_of tint.hi
  pub lower_most : luma_of tint.lo ≤ bounds.greatest
  pub upper_most : luma_of tint.hi ≤ bounds.greatest
  pub pale : bounds.mark ≡ 0 → HasSaturated tint → ⊥

-- the tints of the last frames, as many as the rate, do
abbrev pub AreWithin : ℕ → List Tint → Bounds → Type 0
AreWithin rate tints bounds =
    (frame : ℕ) (tint : Tint) → slice_get tints frame ≡ Some tint → length tints ≤ frame + rate → LiesWithin bounds tint

-- the bounds in a row
abbrev pub bounds_at : ℕ → List ℕ → Bounds
bounds_at rate row = record {
  least = slice_index row (9 * rate);
  greatest = slice_index row (9 * rate + 1);
  mark = slice_index row (9 * rate + 2);
}

-- within the bounds of no tints lies none
abbrev pub nowhere : Bounds
nowhere = record { least = 2 ^ 64 - 1; greatest = 0; mark = 0 }

-- the bounds of the tints before the next frame
abbrev pub bounds_before : ℕ → List ℕ → ℕ → Bounds
bounds_before rate row zero = nowhere
bounds_before rate row (suc turn) = bounds_at rate row

abbrev pub mark_with : Bool → ℕ → ℕ
mark_with true mark = 1
mark_with false mark = mark

-- bounds with one tint more
abbrev pub widened : Bounds → NextTint → Bounds
widened bounds next = record {
  least = min bounds.least (min (luma_of next.tint.lo) (luma_of next.tint.hi));
  greatest = max bounds.greatest (max (luma_of next.tint.lo) (luma_of next.tint.hi));
  mark = mark_with next.is_red bounds.mark;
}

-- no tint within bounds rises or falls to the next one, and none has a saturated corner
pub record IsNearAll (bounds : Bounds) (next : NextTint) : Type 0 where
  pub rise : next.rise_below ≤ bounds.least
  pub sure_rise : next.sure_rise_below ≤ bounds.least
  pub fall : bounds.greatest < next.fall_from
  pub sure_fall : bounds.greatest < next.sure_fall_from
  pub pale : bounds.mark ≡ 0
  pub next_pale : next.is_red ≡ false
