-- The areas are those of the frames so far.
use Rattle.region_parts.specs.Meeting.{IsBoxAreasOf}
use Rattle.region_parts.proofs.areas.areas_below.Given as goal

abbrev pub invariant-loop-k : goal.invariant-loop-k
invariant-loop-k l = IsBoxAreasOf l.scene l.setup l.number l.k l.areas.items
