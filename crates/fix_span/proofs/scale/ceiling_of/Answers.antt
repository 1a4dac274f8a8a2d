-- The ceiling is the floor where nothing is left, and else one more.
use Rattle.std.proofs.Common.{arith, pos, ◌<ℤ◌}
use Rattle.std.specs.Int.{w128, int_rem_euclid}
use Rattle.std.proofs.lemmas.Int.{ints, to_z-of_z}
use Rattle.fix_span.proofs.ScaleLemmas.{ceiling-whole, ceiling-more, next_below}
use Rattle.fix_span.proofs.scale.ceiling_of.Goals as goal

pub returns-then-rest_of-gt0 : goal.returns-then-rest_of-gt0
returns-then-rest_of-gt0 c =
    let whole = rw (to_z-of_z w128 c.args.num c.ranges.num, to_z-of_z w128 c.args.den c.ranges.den) at c.floor_of-whole.ensures in
    let rest = rw (to_z-of_z w128 c.args.num c.ranges.num, to_z-of_z w128 c.args.den c.ranges.den) at c.rest_of.ensures.value in
    let more : pos 0 <ℤ int_rem_euclid c.args.num c.args.den = omega (arith, ints, rest) in
    let next = next_below c.args.num c.args.den c.requires more (omega (arith, ints, c.ranges.num)) in
    omega (arith, ints, whole, next, ceiling-more c.args.num c.args.den c.requires more)

pub returns-else-rest_of-gt0 : goal.returns-else-rest_of-gt0
returns-else-rest_of-gt0 c =
    let whole = rw (to_z-of_z w128 c.args.num c.ranges.num, to_z-of_z w128 c.args.den c.ranges.den) at c.floor_of-whole.ensures in
    let rest = rw (to_z-of_z w128 c.args.num c.ranges.num, to_z-of_z w128 c.args.den c.ranges.den) at c.rest_of.ensures.value in
    omega (arith, ints, whole, rest, ceiling-whole c.args.num c.args.den c.requires (omega (arith, ints, rest)))
