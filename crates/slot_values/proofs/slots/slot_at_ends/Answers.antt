-- A number that stays, both ends, or the one that both are.
use Rattle.std.proofs.Common.{◌≡◌, ◌∙◌, of_z, to_z, ap, arith, sym}
use Rattle.std.specs.Int.{w32}
use Rattle.std.proofs.lemmas.Int.{ints, to_z-of_z}
use Rattle.fix_span.specs.declared.frac.Frac.{Frac}
use Rattle.slot_values.specs.Ends.{end_of}
use Rattle.slot_values.specs.Slots.{slot_as}
use Rattle.slot_values.specs.Slots as definition
use Rattle.slot_values.proofs.MixLemmas.{den-positive}
use Rattle.slot_values.proofs.StillLemmas.{slot-stays}
use Rattle.slot_values.proofs.slots.slot_at_ends.Goals as goal

pub returns-then-from-to : goal.returns-then-from-to
returns-then-from-to c =
    let is = rw (to_z-of_z w32 c.args.from c.ranges.from) at c.still.ensures in
    let first = to_z-of_z w32 c.args.from c.ranges.from in
    let second = to_z-of_z w32 c.args.to c.ranges.to in
    let same = sym first ∙ ap (to_z w32) c.if-from-to.true ∙ second in
    is ∙ sym (slot-stays (slot_as c.args.slot) c.args.from c.args.to (end_of c.args.least) (end_of c.args.greatest)
    same c.requires.unit (den-positive c.args.least c.requires.least) (den-positive c.args.greatest c.requires.greatest))

pub returns-then-are_same : goal.returns-then-are_same
returns-then-are_same c =
    let one : c.args.least ≡ c.args.greatest = c.are_same.ensures.0 c.if-are_same.true in
    let first : to_z w32 (of_z w32 c.value_at-first.result) ≡ c.value_at-first.result = omega (arith, ints) in
    let is = first ∙ rw (to_z-of_z w32 c.args.from c.ranges.from, to_z-of_z w32 c.args.to c.ranges.to) at c.value_at-first.ensures in
    c.loose_of.ensures ∙ (λ i. definition.loose_of (is i) (is i))
    ∙ ap (λ (x : Frac). definition.slot_between (slot_as c.args.slot) c.args.from c.args.to (end_of c.args.least) (end_of x)) one

pub returns : goal.returns
returns c =
    let first : to_z w32 (of_z w32 c.value_at-first.result) ≡ c.value_at-first.result = omega (arith, ints) in
    let second : to_z w32 (of_z w32 c.value_at.result) ≡ c.value_at.result = omega (arith, ints) in
    let is = first ∙ rw (to_z-of_z w32 c.args.from c.ranges.from, to_z-of_z w32 c.args.to c.ranges.to) at c.value_at-first.ensures in
    let other = second ∙ rw (to_z-of_z w32 c.args.from c.ranges.from, to_z-of_z w32 c.args.to c.ranges.to) at c.value_at.ensures in
    c.loose_of-2.ensures ∙ (λ i. definition.loose_of (is i) (other i))
