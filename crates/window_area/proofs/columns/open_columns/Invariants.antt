use Rattle.window_area.proofs.ColumnLemmas.{AreColumnsSoFar}
use Rattle.window_area.proofs.columns.open_columns.Given as goal

abbrev pub invariant-loop-row : goal.invariant-loop-row
invariant-loop-row l = AreColumnsSoFar l.across l.ys l.flags l.size l.row l.columns
