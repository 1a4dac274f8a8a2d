-- Flags of cells stand cell by cell, and are looked at one by one.
use Rattle.std.proofs.Common.{◌≡◌, ℕ, ◌+◌, ◌-◌, ◌*◌, ◌<◌, ◌≤◌, Bool, List, Some, false, ap, arith, inl, inr, subst, sym}
use Rattle.std.specs.Prelude.{ℤ, slice_get, slice_index_or}
use Rattle.std.proofs.lemmas.Bool.{cases_lt}
use Rattle.std.proofs.lemmas.Option.{get_or_from_slice_get}
use Rattle.flash_count.specs.declared.tracking.Flag.{Flag}
use Rattle.period_frames.specs.declared.frames.Horizon.{Horizon}
use Rattle.region_parts.specs.Parts.{Parts, no_horizon}
use Rattle.window_area.specs.FlaggedArea.{flagged_area}
use Rattle.apart_judge.specs.Judging.{AreMarked, HasPossible, IsMostMarked, needed_at, unflagged}

-- the horizon that stands for a cell tells how many frames it needs
pub needed-is : (parts : Parts) (cell : ℕ) (horizon : Horizon) → slice_get parts.horizons cell ≡ Some horizon
    → horizon.settled + horizon.period ≡ needed_at parts cell
needed-is parts cell horizon there =
    sym (ap (λ (h : Horizon). h.settled + h.period) (get_or_from_slice_get parts.horizons cell horizon no_horizon
    there))

-- the flags of the windows that a cell needs are among all flags
pub flags-there : (cell cells frames needed count : ℕ) → cell < cells → needed ≤ frames → count ≡ cells * frames
    → cell * frames + needed ≤ count
flags-there cell cells frames needed count known most all =
    let more : (rest : ℕ) × (cells ≡ cell + 1 + rest) = (cells - (cell + 1), omega arith) in
    let whole : count ≡ (cell + 1 + more.0) * frames = rw more.1 at all in
    omega (arith, whole, most)

-- none of no flags is a possible one
pub none-possible : (flags : List Flag) (from : ℕ) → HasPossible flags from 0 → ⊥
none-possible flags from has = absurd (omega (arith, has.before))

-- and none of one more, where that one isn't
pub none-more : (flags : List Flag) (from start : ℕ) → (HasPossible flags from start → ⊥)
    → (slice_index_or flags (from + start) unflagged).possible ≡ false → HasPossible flags from (start + 1) → ⊥
none-more flags from start none not has =
    elim (cases_lt has.start start) [
      | inl before ↦ none (record { start = has.start; before = before; possible = has.possible })
      | inr last ↦
          let same : has.start ≡ start = omega (arith, has.before, last) in
          let possible = has.possible in
          cc
    ]

-- the most that the rectangle holds over the parts' own edges
pub most-is : (parts : Parts) (flags : List Flag) (xs ys : List ℕ) (marks : List Bool) (most : ℕ) (x y : ℤ)
    → xs ≡ parts.cuts.xs
    → ys ≡ parts.cuts.ys → AreMarked parts flags marks → flagged_area xs ys marks x y ≡ most
    → ((other_x other_y : ℤ) → flagged_area xs ys marks other_x other_y ≤ most) → IsMostMarked parts flags most
most-is parts flags xs ys marks most x y columns rows are has most_of = record {
  marks = marks;
  are = are;
  x = x;
  y = y;
  has = subst (λ across. flagged_area across parts.cuts.ys marks x y ≡ most) columns
      (subst (λ down. flagged_area xs down marks x y ≡ most) rows has);
  most_of = λ other_x other_y.
      subst (λ across. flagged_area across parts.cuts.ys marks other_x other_y ≤ most) columns
      (subst (λ down. flagged_area xs down marks other_x other_y ≤ most) rows (most_of other_x other_y));
}
