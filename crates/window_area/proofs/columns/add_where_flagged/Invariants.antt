use Rattle.window_area.proofs.FlaggedLemmas.{HasAdded}
use Rattle.window_area.proofs.columns.add_where_flagged.Given as goal

abbrev pub invariant-loop-band : goal.invariant-loop-band
invariant-loop-band l = HasAdded l.row l.amount l.band l.fn.columns l.columns
