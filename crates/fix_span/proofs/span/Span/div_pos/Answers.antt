-- Each number of 64 bits is as one of 128 bits what it is; the condition is that both ends fit.
use Rattle.std.proofs.Common.{pos, ◌≡◌, ◌*ℤ◌, ◌^◌, arith, to_z, of_z, refl}
use Rattle.std.specs.Int.{w64, w128}
use Rattle.std.proofs.lemmas.Int.{ints, to_z-of_z}
use Rattle.fix_span.proofs.HoldsLemmas.{Holds-quotient}
use Rattle.fix_span.proofs.span.Span.div_pos.Goals as goal

pub narrow-requires : goal.narrow-requires
narrow-requires g c =
    let low = to_z-of_z w64 c.args.other.lo (omega (arith, ints)) in
    let high = to_z-of_z w64 c.args.other.hi (omega (arith, ints)) in
    let low' = to_z-of_z w128 c.args.other.lo (omega (arith, ints)) in
    let high' = to_z-of_z w128 c.args.other.hi (omega (arith, ints)) in
    let lo = rw (to_z-of_z w64 c.args.self.lo (omega (arith, ints))) at c.raised-lo.ensures in
    let hi = rw (to_z-of_z w64 c.args.self.hi (omega (arith, ints))) at c.raised-hi.ensures in
    let lo' : to_z w128 (of_z w128 c.raised-lo.result) ≡ c.args.self.lo *ℤ pos (2 ^ g.row.F) = omega (arith, ints, lo) in
    let hi' : to_z w128 (of_z w128 c.raised-hi.result) ≡ c.args.self.hi *ℤ pos (2 ^ g.row.F) = omega (arith, ints, hi) in
    let least = rw (low, high, low', high', lo', hi') at c.least_quotient.ensures in
    rw (to_z-of_z w128 c.least_quotient.result (omega (arith, ints)), least) c.requires.fits.lo

pub narrow-requires-2 : goal.narrow-requires-2
narrow-requires-2 g c =
    let low = to_z-of_z w64 c.args.other.lo (omega (arith, ints)) in
    let high = to_z-of_z w64 c.args.other.hi (omega (arith, ints)) in
    let low' = to_z-of_z w128 c.args.other.lo (omega (arith, ints)) in
    let high' = to_z-of_z w128 c.args.other.hi (omega (arith, ints)) in
    let lo = rw (to_z-of_z w64 c.args.self.lo (omega (arith, ints))) at c.raised-lo.ensures in
    let hi = rw (to_z-of_z w64 c.args.self.hi (omega (arith, ints))) at c.raised-hi.ensures in
    let lo' : to_z w128 (of_z w128 c.raised-lo.result) ≡ c.args.self.lo *ℤ pos (2 ^ g.row.F) = omega (arith, ints, lo) in
    let hi' : to_z w128 (of_z w128 c.raised-hi.result) ≡ c.args.self.hi *ℤ pos (2 ^ g.row.F) = omega (arith, ints, hi) in
    let greatest = rw (low, high, low', high', lo', hi') at c.greatest_quotient.ensures in
    rw (to_z-of_z w128 c.greatest_quotient.result (omega (arith, ints)), greatest) c.requires.fits.hi

pub returns-clause-ends : goal.returns-clause-ends
returns-clause-ends g c =
    let low = to_z-of_z w64 c.args.other.lo (omega (arith, ints)) in
    let high = to_z-of_z w64 c.args.other.hi (omega (arith, ints)) in
    let low' = to_z-of_z w128 c.args.other.lo (omega (arith, ints)) in
    let high' = to_z-of_z w128 c.args.other.hi (omega (arith, ints)) in
    let lo = rw (to_z-of_z w64 c.args.self.lo (omega (arith, ints))) at c.raised-lo.ensures in
    let hi = rw (to_z-of_z w64 c.args.self.hi (omega (arith, ints))) at c.raised-hi.ensures in
    let lo' : to_z w128 (of_z w128 c.raised-lo.result) ≡ c.args.self.lo *ℤ pos (2 ^ g.row.F) = omega (arith, ints, lo) in
    let hi' : to_z w128 (of_z w128 c.raised-hi.result) ≡ c.args.self.hi *ℤ pos (2 ^ g.row.F) = omega (arith, ints, hi) in
    let least = rw (low, high, low', high', lo', hi') at c.least_quotient.ensures in
    let greatest = rw (low, high, low', high', lo', hi') at c.greatest_quotient.ensures in
    let narrowed = rw (to_z-of_z w128 c.least_quotient.result (omega (arith, ints)), least) at c.narrow.ensures in
    let narrowed-2 = rw (to_z-of_z w128 c.greatest_quotient.result (omega (arith, ints)), greatest) at c.narrow-2.ensures in
    rw (to_z-of_z w64 c.narrow.result (omega (arith, ints)), to_z-of_z w64 c.narrow-2.result (omega (arith, ints)), narrowed, narrowed-2) refl

pub returns-clause-encloses : goal.returns-clause-encloses
returns-clause-encloses g c p q f h =
    Holds-quotient g.row.F c.args.self c.args.other _ p q (returns-clause-ends g c) c.requires.positive c.requires.ordered f h
