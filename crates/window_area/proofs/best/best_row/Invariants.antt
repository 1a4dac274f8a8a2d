use Rattle.std.proofs.Common.{◌-◌}
use Rattle.window_area.specs.Edges.{end_of}
use Rattle.window_area.proofs.RowScanLemmas.{IsRowScan}
use Rattle.window_area.proofs.best.best_row.Given as goal

abbrev pub invariant-loop-stride : goal.invariant-loop-stride
invariant-loop-stride l = IsRowScan l.xs l.ys l.flags l.fn.limit l.window l.work l.lead

abbrev pub decreases-loop-stride : goal.decreases-loop-stride
decreases-loop-stride l = end_of l.ys - l.window.place
