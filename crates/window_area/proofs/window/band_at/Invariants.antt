-- the edge before is at most the place
use Rattle.std.proofs.Common.{◌-◌, ◌≤◌, get_or}
use Rattle.window_area.proofs.window.band_at.Given as goal

abbrev pub invariant-loop-band : goal.invariant-loop-band
invariant-loop-band l = get_or l.edges (l.band - 1) 0 ≤ l.place
