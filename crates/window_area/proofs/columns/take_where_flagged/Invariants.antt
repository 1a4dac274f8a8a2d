use Rattle.window_area.proofs.FlaggedLemmas.{HasTaken}
use Rattle.window_area.proofs.columns.take_where_flagged.Given as goal

abbrev pub invariant-loop-band : goal.invariant-loop-band
invariant-loop-band l = HasTaken l.row l.amount l.band l.fn.columns l.columns
