-- After each halving the input lies on a stretch of half as many steps.
use Rattle.std.proofs.Common.{◌-◌, ◌^◌}
use Rattle.easing_bounds.specs.Within.{LiesOn}
use Rattle.easing_bounds.proofs.curve.place_of.Given as goal

abbrev pub invariant-halving : goal.invariant-halving
invariant-halving l = LiesOn l.x1 l.x2 l.limit l.place (2 ^ (22 - l.halved))
