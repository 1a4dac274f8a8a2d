use Rattle.witness_make.specs.Turns.{ArePickedBefore}
use Rattle.witness_make.proofs.turns.see.Given as goal

abbrev pub invariant-loop-k : goal.invariant-loop-k
invariant-loop-k l = ArePickedBefore l.all l.cells l.number l.k l.tints
