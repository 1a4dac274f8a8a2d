-- The needs are those of the layers so far.
use Rattle.region_parts.specs.Needs.{AreNeedsBefore}
use Rattle.region_parts.proofs.needs.needs_of.Given as goal

abbrev pub invariant-loop-number : goal.invariant-loop-number
invariant-loop-number l = AreNeedsBefore l.scene l.setup l.number l.needs.horizons.items l.needs.frames.items
