use Rattle.witness_checks.specs.Places.{AreInOrder}
use Rattle.witness_checks.proofs.overlap.stand_in_order.Given as goal

abbrev pub invariant-loop-next : goal.invariant-loop-next
invariant-loop-next l = AreInOrder l.parts l.next
