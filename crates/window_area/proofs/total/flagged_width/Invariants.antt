use Rattle.window_area.proofs.WidthLemmas.{IsWidthSoFar}
use Rattle.window_area.proofs.total.flagged_width.Given as goal

abbrev pub invariant-loop-band : goal.invariant-loop-band
invariant-loop-band l = IsWidthSoFar l.xs l.row l.band l.width
