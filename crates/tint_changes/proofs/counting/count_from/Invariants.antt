use Rattle.tint_changes.specs.Counting.{IsCountBefore, MakesAt}
use Rattle.tint_changes.proofs.counting.count_from.Given as goal

abbrev pub invariant-loop-later : goal.invariant-loop-later
invariant-loop-later l =
    IsCountBefore (MakesAt l.opposing.first l.tints) (MakesAt l.opposing.second l.tints) l.place l.later l.count
