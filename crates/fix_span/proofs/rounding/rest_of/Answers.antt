-- What the machine asks of a divisor.
use Rattle.std.specs.Int.{w128}
use Rattle.std.proofs.lemmas.Int.{to_z-of_z}
use Rattle.fix_span.proofs.DivisorLemmas.{IsNonZero-positive, NotMinOverMinusOne-positive}
use Rattle.fix_span.proofs.rounding.rest_of.Goals as goal

pub rem_euclid-requires-clause-nonzero : goal.rem_euclid-requires-clause-nonzero
rem_euclid-requires-clause-nonzero c =
    rw (to_z-of_z w128 c.args.den c.ranges.den) (IsNonZero-positive c.args.den c.requires)

pub rem_euclid-requires-clause-no_overflow : goal.rem_euclid-requires-clause-no_overflow
rem_euclid-requires-clause-no_overflow c =
    rw (to_z-of_z w128 c.args.den c.ranges.den, to_z-of_z w128 c.args.num c.ranges.num)
    (NotMinOverMinusOne-positive c.args.num c.args.den c.requires c.ranges.den)
