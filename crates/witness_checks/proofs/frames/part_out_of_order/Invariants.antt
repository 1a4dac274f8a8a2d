use Rattle.witness_checks.specs.Faults.{Rises}
use Rattle.witness_checks.proofs.FirstLemmas.{HoldsBefore}
use Rattle.witness_checks.proofs.frames.part_out_of_order.Given as goal

abbrev pub invariant-loop-number : goal.invariant-loop-number
invariant-loop-number l = HoldsBefore Rises l.witness.parts l.number
