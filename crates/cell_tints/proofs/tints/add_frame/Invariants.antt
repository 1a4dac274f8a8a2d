use Rattle.std.proofs.Common.{◌+◌, ◌*◌}
use Rattle.cell_tints.specs.Tints.{AreTintsBefore, cells_of}
use Rattle.cell_tints.proofs.tints.add_frame.Given as goal

abbrev pub invariant-loop-i : goal.invariant-loop-i
invariant-loop-i l = AreTintsBefore l.scene l.setup l.cuts l.start (l.k * cells_of l.cuts + l.i) l.tints.items
