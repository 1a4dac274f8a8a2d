-- Lengths in the slot's own unit.
use Rattle.std.proofs.Common.{◌∙◌, arith, FitsSigned}
use Rattle.std.specs.Int.{w32}
use Rattle.std.proofs.lemmas.Int.{ints, to_z-of_z}
use Rattle.slot_values.specs.Ends.{end_of}
use Rattle.slot_values.specs.Slots.{slot_as, slot_between}
use Rattle.layer_ways.proofs.found.pixels_on.Goals as goal

pub returns : goal.returns
returns c =
    let from_fits : FitsSigned w32 c.length_of-from.result = omega (arith, ints, c.length_of-from.type_inv) in
    let to_fits : FitsSigned w32 c.length_of.result = omega (arith, ints, c.length_of.type_inv) in
    let from = to_z-of_z w32 c.length_of-from.result from_fits ∙ c.length_of-from.ensures in
    let to = to_z-of_z w32 c.length_of.result to_fits ∙ c.length_of.ensures in
    c.slot_value.ensures.value ∙ (λ i. slot_between (slot_as c.args.slot) (from i) (to i) (end_of c.args.way.least) (end_of c.args.way.greatest))
