-- The horizons are those by the layers so far.
use Rattle.region_split.specs.Marks.{frames_in}
use Rattle.region_parts.specs.Needs.{AreHorizonsBefore}
use Rattle.region_parts.proofs.horizons.horizons_of_cells.Given as goal

abbrev pub invariant-loop-number : goal.invariant-loop-number
invariant-loop-number l = AreHorizonsBefore l.scene l.setup (frames_in l.needs.frames.items) l.cuts l.number l.horizons.items
