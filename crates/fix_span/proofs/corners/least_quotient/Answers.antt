-- Each of the four quotients is as a number of 128 bits what it is.
use Rattle.std.proofs.Common.{◌≡◌, arith, to_z, of_z, refl}
use Rattle.std.specs.Int.{w128, int_div_euclid}
use Rattle.std.proofs.lemmas.Int.{ints, to_z-of_z}
use Rattle.fix_span.proofs.corners.least_quotient.Goals as goal

pub returns : goal.returns
returns c =
    let one = rw (to_z-of_z w128 c.args.lo c.ranges.lo, to_z-of_z w128 c.args.low c.ranges.low) at c.floor_of.ensures in
    let two = rw (to_z-of_z w128 c.args.lo c.ranges.lo, to_z-of_z w128 c.args.high c.ranges.high) at c.floor_of-2.ensures in
    let three = rw (to_z-of_z w128 c.args.hi c.ranges.hi, to_z-of_z w128 c.args.low c.ranges.low) at c.floor_of-3.ensures in
    let four = rw (to_z-of_z w128 c.args.hi c.ranges.hi, to_z-of_z w128 c.args.high c.ranges.high) at c.floor_of-4.ensures in
    let one' : to_z w128 (of_z w128 c.floor_of.result) ≡ int_div_euclid c.args.lo c.args.low = omega (arith, ints, one) in
    let two' : to_z w128 (of_z w128 c.floor_of-2.result) ≡ int_div_euclid c.args.lo c.args.high = omega (arith, ints, two) in
    let three' : to_z w128 (of_z w128 c.floor_of-3.result) ≡ int_div_euclid c.args.hi c.args.low = omega (arith, ints, three) in
    let four' : to_z w128 (of_z w128 c.floor_of-4.result) ≡ int_div_euclid c.args.hi c.args.high = omega (arith, ints, four) in
    rw (to_z-of_z w128 c.least_of.result (omega (arith, ints)), c.least_of.ensures, one', two', three', four') refl
