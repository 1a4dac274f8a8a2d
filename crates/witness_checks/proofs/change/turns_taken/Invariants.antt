use Rattle.witness_checks.proofs.TurnLemmas.{IsTurned}
use Rattle.witness_checks.proofs.change.turns_taken.Given as goal

abbrev pub invariant-loop-turn : goal.invariant-loop-turn
invariant-loop-turn l = IsTurned l.kind l.first l.tints l.turn l.forwards
