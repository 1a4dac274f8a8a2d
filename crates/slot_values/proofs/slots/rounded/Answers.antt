-- The quotient is of the doubled numbers, which fit; held it fits 32 bits.
use Rattle.std.proofs.Common.{◌≡◌, ℤ, pos, neg_ℤ, ◌^◌, ◌+ℤ◌, ◌*ℤ◌, ◌≤ℤ◌, ◌<ℤ◌, of_z, to_z, arith, FitsSigned}
use Rattle.std.specs.Int.{int_div_euclid, int_max, int_min, w32, w128}
use Rattle.std.proofs.lemmas.Int.{ints, clamps, to_z-of_z}
use Rattle.slot_values.specs.Slots as definition
use Rattle.slot_values.proofs.slots.rounded.Goals as goal

-- the quotient, of numbers in their ranges
quotient : (q value parts : ℤ) → FitsSigned w128 value → FitsSigned w128 parts → pos 0 <ℤ parts → parts ≤ℤ pos (2 ^ 100)
    → neg_ℤ (pos (2 ^ 100)) ≤ℤ value → value ≤ℤ pos (2 ^ 100)
    → q ≡ int_div_euclid (to_z w128 (of_z w128 (to_z w128 (of_z w128 (pos 2 *ℤ to_z w128 (of_z w128 value))) +ℤ to_z w128 (of_z w128 parts))))
    (to_z w128 (of_z w128 (pos 2 *ℤ to_z w128 (of_z w128 parts))))
    → q ≡ definition.half_up value parts
quotient q value parts value_fits parts_fit some few low high is =
    let v = to_z-of_z w128 value value_fits in
    let p = to_z-of_z w128 parts parts_fit in
    let twice = to_z-of_z w128 (pos 2 *ℤ value) (omega (arith, ints)) in
    let sum = to_z-of_z w128 (pos 2 *ℤ value +ℤ parts) (omega (arith, ints)) in
    let den = to_z-of_z w128 (pos 2 *ℤ parts) (omega (arith, ints)) in
    rw (v, p, twice, sum, den) at is

-- held in a range of 32 bits
held-is : (q h least greatest low high : ℤ) → FitsSigned w32 least → FitsSigned w32 greatest → q ≡ h → low ≡ int_min q greatest
    → high ≡ int_max low least → high ≡ int_max least (int_min h greatest)
held-is q h least greatest low high first second e f g = omega (arith, ints, clamps)

held-fits : (h least greatest : ℤ) → FitsSigned w32 least → FitsSigned w32 greatest → FitsSigned w32 (int_max least (int_min h greatest))
held-fits h least greatest first second = omega (arith, ints, clamps)

wider : (z : ℤ) → FitsSigned w32 z → FitsSigned w128 z
wider z fits = omega (arith, ints)

max-is : (c : goal.After-max) → c.max.result ≡ int_max c.args.least (int_min (definition.half_up c.args.value c.args.parts) c.args.greatest)
max-is c =
    let whole : FitsSigned w128 c.quotient-whole.result = omega (arith, ints, c.quotient-whole.type_inv) in
    let low : FitsSigned w128 c.min.result = omega (arith, ints, c.min.type_inv) in
    let least = to_z-of_z w32 c.args.least c.ranges.least in
    let greatest = to_z-of_z w32 c.args.greatest c.ranges.greatest in
    let least' = to_z-of_z w128 c.args.least (wider c.args.least c.ranges.least) in
    let greatest' = to_z-of_z w128 c.args.greatest (wider c.args.greatest c.ranges.greatest) in
    held-is c.quotient-whole.result (definition.half_up c.args.value c.args.parts) c.args.least c.args.greatest c.min.result c.max.result
    c.ranges.least c.ranges.greatest
    (quotient c.quotient-whole.result c.args.value c.args.parts c.ranges.value c.ranges.parts c.requires.some c.requires.few
    c.requires.range.at_least c.requires.range.at_most c.quotient-whole.ensures)
    (rw (to_z-of_z w128 c.quotient-whole.result whole, greatest, greatest') at c.min.ensures.value)
    (rw (to_z-of_z w128 c.min.result low, least, least') at c.max.ensures.value)

pub overflow_cast-result : goal.overflow_cast-result
overflow_cast-result c =
    let high : FitsSigned w128 c.max.result = omega (arith, ints, c.max.type_inv) in
    rw (to_z-of_z w128 c.max.result high, max-is c)
    (held-fits (definition.half_up c.args.value c.args.parts) c.args.least c.args.greatest c.ranges.least c.ranges.greatest)

pub returns : goal.returns
returns c =
    let high : FitsSigned w128 c.max.result = omega (arith, ints, c.max.type_inv) in
    rw (to_z-of_z w128 c.max.result high, max-is c)
    (to_z-of_z w32 (int_max c.args.least (int_min (definition.half_up c.args.value c.args.parts) c.args.greatest))
    (held-fits (definition.half_up c.args.value c.args.parts) c.args.least c.args.greatest c.ranges.least c.ranges.greatest))
