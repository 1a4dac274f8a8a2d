use Rattle.witness_checks.specs.Places.{IsApartFrom}
use Rattle.witness_checks.proofs.overlap.next_overlap.Given as goal

abbrev pub invariant-loop-second : goal.invariant-loop-second
invariant-loop-second l = IsApartFrom l.parts l.first l.second
