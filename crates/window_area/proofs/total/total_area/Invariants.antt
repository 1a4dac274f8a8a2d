use Rattle.window_area.proofs.WidthLemmas.{IsTotalSoFar}
use Rattle.window_area.proofs.total.total_area.Given as goal

abbrev pub invariant-loop-row : goal.invariant-loop-row
invariant-loop-row l = IsTotalSoFar l.xs l.ys l.flags l.row l.area
