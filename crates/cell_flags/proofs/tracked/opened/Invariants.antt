use Rattle.cell_flags.specs.Flags.{IsTracking}
use Rattle.cell_flags.proofs.tracked.opened.Given as goal

abbrev pub invariant-loop-frame : goal.invariant-loop-frame
invariant-loop-frame l = IsTracking l.tints l.cells l.cell l.rate l.frame l.tracker
