-- The value is that between the ends, which is the own kind's and lies in the slot's range.
use Rattle.std.proofs.Common.{◌≡◌, sym, subst}
use Rattle.std.specs.Int.{w32}
use Rattle.std.proofs.lemmas.Int.{to_z-of_z}
use Rattle.page_model.specs.Enclosure.{IsLoose, Loose, own}
use Rattle.slot_values.specs.Ends.{end_of}
use Rattle.slot_values.specs.Slots.{IsInSlot, loose_as, slot_as, slot_between}
use Rattle.slot_values.proofs.RoundingLemmas.{in_slot, loose-is}
use Rattle.slot_values.proofs.slots.slot_value.Goals as goal

is : (c : goal.After-slot_at_ends) → loose_as c.slot_at_ends.result ≡ slot_between (slot_as c.args.slot) c.args.from c.args.to (end_of c.args.least) (end_of c.args.greatest)
is c = rw (to_z-of_z w32 c.args.from c.ranges.from, to_z-of_z w32 c.args.to c.ranges.to) at c.slot_at_ends.ensures

pub returns-clause-own : goal.returns-clause-own
returns-clause-own c easing x ends some =
    subst (λ (loose : Loose). IsLoose own (slot_as c.args.slot) easing x c.args.from c.args.to loose) (sym (is c))
    (loose-is (slot_as c.args.slot) easing x c.args.from c.args.to (end_of c.args.least) (end_of c.args.greatest) ends c.requires.unit some)

pub returns-clause-range : goal.returns-clause-range
returns-clause-range c some =
    subst (λ (loose : Loose). IsInSlot (slot_as c.args.slot) loose) (sym (is c))
    (in_slot (slot_as c.args.slot) c.args.from c.args.to (end_of c.args.least) (end_of c.args.greatest) some)
