-- The whole part and the parts beside it, joined.
use Rattle.std.proofs.Common.{◌≡◌, arith, to_z, of_z, FitsSigned}
use Rattle.std.specs.Int.{w64, w128, int_div_euclid}
use Rattle.std.proofs.lemmas.Int.{ints, to_z-of_z}
use Rattle.fix_span.proofs.scale.floor_in.Goals as goal

pub joined-requires-clause-fits : goal.joined-requires-clause-fits
joined-requires-clause-fits c =
    let whole = rw (to_z-of_z w128 c.args.num c.ranges.num, to_z-of_z w128 c.args.den c.ranges.den) at c.floor_of.ensures in
    let found = rw (to_z-of_z w128 c.args.num c.ranges.num, to_z-of_z w128 c.args.den c.ranges.den) at c.share_beside-share.ensures.floor in
    let same : to_z w128 (of_z w128 c.floor_of.result) ≡ int_div_euclid c.args.num c.args.den = omega (arith, ints, whole) in
    rw (same, found.is) c.requires.fits

pub returns : goal.returns
returns c =
    let whole = rw (to_z-of_z w128 c.args.num c.ranges.num, to_z-of_z w128 c.args.den c.ranges.den) at c.floor_of.ensures in
    let found = rw (to_z-of_z w128 c.args.num c.ranges.num, to_z-of_z w128 c.args.den c.ranges.den) at c.share_beside-share.ensures.floor in
    let same : to_z w128 (of_z w128 c.floor_of.result) ≡ int_div_euclid c.args.num c.args.den = omega (arith, ints, whole) in
    let fits : FitsSigned w64 c.joined.result = omega (arith, ints) in
    rw (to_z-of_z w64 c.joined.result fits, c.joined.ensures, same) found
