use Rattle.page_model.specs.WitnessConditions.{LiesInside}
use Rattle.witness_checks.proofs.FirstLemmas.{HoldsBefore}
use Rattle.witness_checks.proofs.place.part_outside.Given as goal

abbrev pub invariant-loop-number : goal.invariant-loop-number
invariant-loop-number l = HoldsBefore (LiesInside l.setup l.witness) l.witness.parts l.number
