-- The homes are those of the boxes so far.
use Rattle.cell_groups.specs.Homes.{AreHomesBefore}
use Rattle.cell_groups.proofs.homes.homes_of.Given as goal

abbrev pub invariant-loop-number : goal.invariant-loop-number
invariant-loop-number l = AreHomesBefore l.scene l.setup l.frames l.number l.homes.items
