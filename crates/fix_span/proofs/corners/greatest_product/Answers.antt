-- Each of the four products is as a number of 128 bits what it is.
use Rattle.std.proofs.Common.{◌≡◌, ◌*ℤ◌, arith, to_z, of_z, refl}
use Rattle.std.specs.Int.{w64, w128}
use Rattle.std.proofs.lemmas.Int.{ints, to_z-of_z}
use Rattle.fix_span.proofs.corners.greatest_product.Goals as goal

pub returns : goal.returns
returns c =
    let one = rw (to_z-of_z w64 c.args.lo c.ranges.lo, to_z-of_z w64 c.args.low c.ranges.low) at c.times.ensures in
    let two = rw (to_z-of_z w64 c.args.lo c.ranges.lo, to_z-of_z w64 c.args.high c.ranges.high) at c.times-2.ensures in
    let three = rw (to_z-of_z w64 c.args.hi c.ranges.hi, to_z-of_z w64 c.args.low c.ranges.low) at c.times-3.ensures in
    let four = rw (to_z-of_z w64 c.args.hi c.ranges.hi, to_z-of_z w64 c.args.high c.ranges.high) at c.times-4.ensures in
    let one' : to_z w128 (of_z w128 c.times.result) ≡ c.args.lo *ℤ c.args.low = omega (arith, ints, one) in
    let two' : to_z w128 (of_z w128 c.times-2.result) ≡ c.args.lo *ℤ c.args.high = omega (arith, ints, two) in
    let three' : to_z w128 (of_z w128 c.times-3.result) ≡ c.args.hi *ℤ c.args.low = omega (arith, ints, three) in
    let four' : to_z w128 (of_z w128 c.times-4.result) ≡ c.args.hi *ℤ c.args.high = omega (arith, ints, four) in
    rw (to_z-of_z w128 c.greatest_of.result (omega (arith, ints)), c.greatest_of.ensures, one', two', three', four') refl
