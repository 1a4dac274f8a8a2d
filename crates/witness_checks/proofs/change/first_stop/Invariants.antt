use Rattle.witness_checks.specs.Turns.{Changes}
use Rattle.witness_checks.proofs.FirstLemmas.{HoldsBefore}
use Rattle.witness_checks.proofs.change.first_stop.Given as goal

abbrev pub invariant-loop-number : goal.invariant-loop-number
invariant-loop-number l = HoldsBefore Changes l.witness.parts l.number
