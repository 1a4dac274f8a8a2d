use Rattle.apart_judge.specs.Judging.{HasPossible}
use Rattle.apart_judge.proofs.marking.some_possible.Given as goal

abbrev pub invariant-loop-start : goal.invariant-loop-start
invariant-loop-start l = HasPossible l.flags l.from l.start → ⊥
