use Rattle.std.proofs.Common.{◌≡◌, ◌++◌, map, length}
use Rattle.css_columns.specs.declared.item.Shorthand.{Shorthand}
use Rattle.css_columns.proofs.longhands.durations.Given as goal

abbrev pub invariant-items : goal.invariant-items
invariant-items l = l.list ++ map (λ (i : Shorthand). i.duration) l.rest ≡ map (λ (i : Shorthand). i.duration) l.items

abbrev pub decreases-items : goal.decreases-items
decreases-items l = length l.rest
