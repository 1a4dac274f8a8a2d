use Rattle.std.proofs.Common.{◌-◌}
use Rattle.window_area.specs.Edges.{end_of}
use Rattle.window_area.proofs.ScanLemmas.{IsScan}
use Rattle.window_area.proofs.strip.most_in_strip.Given as goal

abbrev pub invariant-loop-stride : goal.invariant-loop-stride
invariant-loop-stride l = IsScan l.edges l.weights l.size l.window l.held l.most

abbrev pub decreases-loop-stride : goal.decreases-loop-stride
decreases-loop-stride l = end_of l.edges - l.window.place
