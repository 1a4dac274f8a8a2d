use Rattle.std.proofs.Common.{◌≡◌, ◌++◌, drop}
use Rattle.cascade_winners.specs.Views.{winners_as}
use Rattle.cascade.specs.Named.{animations_from}
use Rattle.cascade.proofs.animations.animations_named.Given as goal

-- the animations so far and those of the names that are left are all of them
abbrev pub invariant-naming : goal.invariant-naming
invariant-naming l =
    l.anims ++ animations_from l.sheet (winners_as l.winners) l.place (drop l.place l.names)
    ≡ animations_from l.sheet (winners_as l.winners) 0 l.names
