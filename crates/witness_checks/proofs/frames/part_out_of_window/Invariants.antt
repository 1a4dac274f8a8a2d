use Rattle.witness_checks.specs.Faults.{LiesInWindow}
use Rattle.witness_checks.proofs.FirstLemmas.{HoldsBefore}
use Rattle.witness_checks.proofs.frames.part_out_of_window.Given as goal

abbrev pub invariant-loop-number : goal.invariant-loop-number
invariant-loop-number l = HoldsBefore (LiesInWindow l.setup l.witness) l.witness.parts l.number
