-- Each number of 64 bits is as one of 128 bits what it is; the condition is that both ends fit.
use Rattle.std.proofs.Common.{pos, ◌≡◌, ◌^◌, arith, to_z, of_z, refl}
use Rattle.std.specs.Int.{w64, w128}
use Rattle.std.proofs.lemmas.Int.{ints, to_z-of_z}
use Rattle.fix_span.specs.Span.{greatest_product, least_product}
use Rattle.fix_span.proofs.span_ops.SpanMul.mul.Goals as goal

pub narrow-requires : goal.narrow-requires
narrow-requires g c =
    let lo = to_z-of_z w64 c.args.self.lo (omega (arith, ints)) in
    let hi = to_z-of_z w64 c.args.self.hi (omega (arith, ints)) in
    let low = to_z-of_z w64 c.args.rhs.lo (omega (arith, ints)) in
    let high = to_z-of_z w64 c.args.rhs.hi (omega (arith, ints)) in
    let least = rw (lo, hi, low, high) at c.least_product-least.ensures in
    let least' : to_z w128 (of_z w128 c.least_product-least.result) ≡ least_product g.row.F c.args.self c.args.rhs = omega (arith, ints, least) in
    let parts : to_z w128 (of_z w128 c.parts_of.result) ≡ pos (2 ^ g.row.F) = omega (arith, ints, c.parts_of.ensures) in
    let floor = rw (least', parts) at c.floor_of.ensures in
    rw (to_z-of_z w128 c.floor_of.result (omega (arith, ints)), floor) c.requires.1.lo

pub narrow-requires-2 : goal.narrow-requires-2
narrow-requires-2 g c =
    let lo = to_z-of_z w64 c.args.self.lo (omega (arith, ints)) in
    let hi = to_z-of_z w64 c.args.self.hi (omega (arith, ints)) in
    let low = to_z-of_z w64 c.args.rhs.lo (omega (arith, ints)) in
    let high = to_z-of_z w64 c.args.rhs.hi (omega (arith, ints)) in
    let greatest = rw (lo, hi, low, high) at c.greatest_product-greatest.ensures in
    let greatest' : to_z w128 (of_z w128 c.greatest_product-greatest.result) ≡ greatest_product g.row.F c.args.self c.args.rhs = omega (arith, ints, greatest) in
    let parts-2 : to_z w128 (of_z w128 c.parts_of-2.result) ≡ pos (2 ^ g.row.F) = omega (arith, ints, c.parts_of-2.ensures) in
    let ceiling = rw (greatest', parts-2) at c.ceiling_of.ensures in
    rw (to_z-of_z w128 c.ceiling_of.result (omega (arith, ints)), ceiling) c.requires.1.hi

pub returns : goal.returns
returns g c =
    let lo = to_z-of_z w64 c.args.self.lo (omega (arith, ints)) in
    let hi = to_z-of_z w64 c.args.self.hi (omega (arith, ints)) in
    let low = to_z-of_z w64 c.args.rhs.lo (omega (arith, ints)) in
    let high = to_z-of_z w64 c.args.rhs.hi (omega (arith, ints)) in
    let least = rw (lo, hi, low, high) at c.least_product-least.ensures in
    let least' : to_z w128 (of_z w128 c.least_product-least.result) ≡ least_product g.row.F c.args.self c.args.rhs = omega (arith, ints, least) in
    let parts : to_z w128 (of_z w128 c.parts_of.result) ≡ pos (2 ^ g.row.F) = omega (arith, ints, c.parts_of.ensures) in
    let floor = rw (least', parts) at c.floor_of.ensures in
    let greatest = rw (lo, hi, low, high) at c.greatest_product-greatest.ensures in
    let greatest' : to_z w128 (of_z w128 c.greatest_product-greatest.result) ≡ greatest_product g.row.F c.args.self c.args.rhs = omega (arith, ints, greatest) in
    let parts-2 : to_z w128 (of_z w128 c.parts_of-2.result) ≡ pos (2 ^ g.row.F) = omega (arith, ints, c.parts_of-2.ensures) in
    let ceiling = rw (greatest', parts-2) at c.ceiling_of.ensures in
    let narrowed = rw (to_z-of_z w128 c.floor_of.result (omega (arith, ints)), floor) at c.narrow.ensures in
    let narrowed-2 = rw (to_z-of_z w128 c.ceiling_of.result (omega (arith, ints)), ceiling) at c.narrow-2.ensures in
    rw (to_z-of_z w64 c.narrow.result (omega (arith, ints)), to_z-of_z w64 c.narrow-2.result (omega (arith, ints)), narrowed, narrowed-2) refl
