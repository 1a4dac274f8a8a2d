-- None of the cells so far lies in the area.
use Rattle.std.proofs.Common.{ℕ, false, ◌≡◌, ◌<◌}
use Rattle.region_split.specs.Cutting.{cell_of}
use Rattle.region_parts.specs.Meeting.{has_pixel}
use Rattle.region_parts.proofs.meeting.meets_cell.Given as goal

abbrev pub invariant-loop-i : goal.invariant-loop-i
invariant-loop-i l =
    (cell : ℕ) → cell < l.i → has_pixel (cell_of l.cuts.xs l.cuts.ys cell).x (cell_of l.cuts.xs l.cuts.ys cell).y l.area ≡ false
