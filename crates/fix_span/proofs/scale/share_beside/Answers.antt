-- The parts of what is left, beside those of the whole part.
use Rattle.std.proofs.Common.{pos, ◌≡◌, ◌^◌, arith}
use Rattle.std.specs.Int.{w128, int_rem_euclid}
use Rattle.std.proofs.lemmas.Int.{ints, to_z-of_z}
use Rattle.fix_span.proofs.ScaleLemmas.{joined_floor}
use Rattle.fix_span.proofs.scale.share_beside.Goals as goal

pub returns-clause-floor : goal.returns-clause-floor
returns-clause-floor c =
    let rest = rw (to_z-of_z w128 c.args.num c.ranges.num, to_z-of_z w128 c.args.den c.ranges.den) at c.rest_of.ensures.value in
    let left : pos c.natural-left.result ≡ int_rem_euclid c.args.num c.args.den = omega (arith, ints, rest, c.natural-left.ensures.value) in
    joined_floor c.args.num c.args.den c.natural-left.result c.natural-size.result (2 ^ c.args.bits) c.share_of.result.parts c.share_of.result.rest
    c.requires.positive left (omega (arith, ints, c.natural-size.ensures.value)) c.share_of.ensures.below c.share_of.ensures.whole
