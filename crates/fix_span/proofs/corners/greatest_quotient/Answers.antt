-- Each of the four quotients is as a number of 128 bits what it is.
use Rattle.std.proofs.Common.{◌≡◌, arith, to_z, of_z, refl}
use Rattle.std.specs.Int.{w128}
use Rattle.std.proofs.lemmas.Int.{ints, to_z-of_z}
use Rattle.fix_span.specs.Span.{ceiling}
use Rattle.fix_span.proofs.corners.greatest_quotient.Goals as goal

pub returns : goal.returns
returns c =
    let one = rw (to_z-of_z w128 c.args.lo c.ranges.lo, to_z-of_z w128 c.args.low c.ranges.low) at c.ceiling_of.ensures in
    let two = rw (to_z-of_z w128 c.args.lo c.ranges.lo, to_z-of_z w128 c.args.high c.ranges.high) at c.ceiling_of-2.ensures in
    let three = rw (to_z-of_z w128 c.args.hi c.ranges.hi, to_z-of_z w128 c.args.low c.ranges.low) at c.ceiling_of-3.ensures in
    let four = rw (to_z-of_z w128 c.args.hi c.ranges.hi, to_z-of_z w128 c.args.high c.ranges.high) at c.ceiling_of-4.ensures in
    let one' : to_z w128 (of_z w128 c.ceiling_of.result) ≡ ceiling c.args.lo c.args.low = omega (arith, ints, one) in
    let two' : to_z w128 (of_z w128 c.ceiling_of-2.result) ≡ ceiling c.args.lo c.args.high = omega (arith, ints, two) in
    let three' : to_z w128 (of_z w128 c.ceiling_of-3.result) ≡ ceiling c.args.hi c.args.low = omega (arith, ints, three) in
    let four' : to_z w128 (of_z w128 c.ceiling_of-4.result) ≡ ceiling c.args.hi c.args.high = omega (arith, ints, four) in
    rw (to_z-of_z w128 c.greatest_of.result (omega (arith, ints)), c.greatest_of.ensures, one', two', three', four') refl
