-- The cells so far are in their groups.
use Rattle.cell_groups.specs.Groups.{AreGroupsBefore}
use Rattle.cell_groups.proofs.groups.Groups.of.Given as goal

abbrev pub invariant-loop-cell : goal.invariant-loop-cell
invariant-loop-cell l = AreGroupsBefore l.scene l.setup l.frames l.cuts l.cell l.groups
