use Rattle.apart_judge.specs.Judging.{AreMarkedBefore}
use Rattle.apart_judge.proofs.marking.mark.Given as goal

abbrev pub invariant-loop-cell : goal.invariant-loop-cell
invariant-loop-cell l = AreMarkedBefore l.parted l.flags l.cell l.marks
