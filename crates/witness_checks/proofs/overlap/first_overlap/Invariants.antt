use Rattle.witness_checks.specs.Places.{AreApartBefore}
use Rattle.witness_checks.proofs.overlap.first_overlap.Given as goal

abbrev pub invariant-loop-first : goal.invariant-loop-first
invariant-loop-first l = AreApartBefore l.parts l.first
