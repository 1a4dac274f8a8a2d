-- Rounded in the parts of the end, and held.
use Rattle.std.proofs.Common.{◌≡◌, ◌∙◌, ℤ, of_z, to_z, arith, refl, FitsSigned}
use Rattle.std.specs.Int.{int_max, int_min, w32, w128}
use Rattle.std.proofs.lemmas.Int.{ints, to_z-of_z}
use Rattle.page_model.specs.Slot.{Slot, held}
use Rattle.slot_values.specs.Slots.{slot_as}
use Rattle.slot_values.specs.Slots as definition
use Rattle.slot_values.proofs.slots.value_at.Goals as goal

same : (slot : Slot) (value parts other other_parts : ℤ) → value ≡ other → parts ≡ other_parts
    → int_max slot.least (int_min (definition.half_up value parts) slot.greatest) ≡ held slot (definition.half_up other other_parts)
same slot value parts other other_parts e f = rw (e, f) refl

pub returns : goal.returns
returns c =
    let value = rw (to_z-of_z w32 c.args.from c.ranges.from, to_z-of_z w32 c.args.to c.ranges.to) at c.between-value.ensures.value in
    let least : to_z w32 (of_z w32 c.args.slot.least) ≡ c.args.slot.least = omega (arith, ints) in
    let greatest : to_z w32 (of_z w32 c.args.slot.greatest) ≡ c.args.slot.greatest = omega (arith, ints) in
    let way_fits : FitsSigned w128 c.between-value.result = omega (arith, ints, c.between-value.type_inv) in
    let parts_fit : FitsSigned w128 c.parts_of.result = omega (arith, ints, c.parts_of.type_inv) in
    let is =
    rw (least, greatest, to_z-of_z w128 c.between-value.result way_fits, to_z-of_z w128 c.parts_of.result parts_fit) at c.rounded.ensures in
    let fits : FitsSigned w32 c.rounded.result = omega (arith, ints, c.rounded.type_inv) in
    to_z-of_z w32 c.rounded.result fits ∙ is
    ∙ same (slot_as c.args.slot) c.between-value.result c.parts_of.result _ _ value c.parts_of.ensures.value
