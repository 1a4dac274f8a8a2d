-- Rounded in the slot's unit, and held.
use Rattle.std.proofs.Common.{◌≡◌, ◌∙◌, ℤ, of_z, to_z, pos, arith, FitsSigned}
use Rattle.std.specs.Int.{w32, w128}
use Rattle.std.proofs.lemmas.Int.{ints, to_z-of_z}
use Rattle.slot_values.specs.Slots.{slot_as}
use Rattle.slot_values.proofs.StillLemmas.{still-is}
use Rattle.slot_values.proofs.slots.still.Goals as goal

pub returns : goal.returns
returns c =
    let fits : FitsSigned w32 c.rounded-value.result = omega (arith, ints, c.rounded-value.type_inv) in
    let own = to_z-of_z w32 c.args.own c.ranges.own in
    let least : to_z w32 (of_z w32 c.args.slot.least) ≡ c.args.slot.least = omega (arith, ints) in
    let greatest : to_z w32 (of_z w32 c.args.slot.greatest) ≡ c.args.slot.greatest = omega (arith, ints) in
    let unit : to_z w128 c.args.slot.unit ≡ pos c.args.slot.unit = omega (arith, ints) in
    let wide = to_z-of_z w128 c.args.own (wider c.args.own c.ranges.own) in
    let is = rw (own, wide, least, greatest, unit) at c.rounded-value.ensures in
    still-is (slot_as c.args.slot) c.args.own (to_z w32 (of_z w32 c.rounded-value.result)) c.requires
    (to_z-of_z w32 c.rounded-value.result fits ∙ is)
  where
    wider : (z : ℤ) → FitsSigned w32 z → FitsSigned w128 z
    wider z fits = omega (arith, ints)
