-- The horizons of the cells so far are joined.
use Rattle.region_parts.specs.Joining.{AreJoinedBefore}
use Rattle.region_parts.proofs.joining.join_met.Given as goal

abbrev pub invariant-loop-i : goal.invariant-loop-i
invariant-loop-i l = AreJoinedBefore l.cuts l.areas l.own l.i l.initial.horizons l.horizons
