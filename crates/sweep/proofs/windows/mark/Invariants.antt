use Rattle.sweep.specs.Told.{AreMarksOf}
use Rattle.sweep.proofs.windows.mark.Given as goal

abbrev pub invariant-loop-cell : goal.invariant-loop-cell
invariant-loop-cell l = AreMarksOf l.sort l.groups l.flags l.cell l.marks
