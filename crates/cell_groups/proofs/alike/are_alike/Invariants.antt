-- The homes so far tell it.
use Rattle.std.specs.Prelude.{take}
use Rattle.cell_groups.specs.Homes.{TellAlike}
use Rattle.cell_groups.proofs.alike.are_alike.Given as goal

abbrev pub invariant-loop-home : goal.invariant-loop-home
invariant-loop-home l = TellAlike (take l.home-index l.homes) l.one.x l.one.y l.other.x l.other.y
