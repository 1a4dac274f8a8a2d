use Rattle.cell_tints.specs.Tints.{AreTintsIn}
use Rattle.cell_tints.proofs.tints.tints_in_frame.Given as goal

abbrev pub invariant-loop-i : goal.invariant-loop-i
invariant-loop-i l = AreTintsIn l.scene l.setup l.cuts l.frame l.chosen l.i l.tints
