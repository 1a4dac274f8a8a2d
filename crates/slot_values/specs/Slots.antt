-- The whole values of a slot between two ends: at each end rounded half up and held in the slot's range.
use Rattle.std.specs.Prelude.{ℤ, pos, ◌*◌, ◌+ℤ◌, ◌-ℤ◌, ◌*ℤ◌, ◌≤ℤ◌}
use Rattle.std.specs.Int.{int_div_euclid, int_min, int_max}
use Rattle.page_model.specs.Enclosure.{Loose}
use Rattle.page_model.specs.Slot.{Slot, held}
use Rattle.fix_span.specs.declared.loose.Loose.{Loose as Ends}
use Rattle.slot_values.specs.declared.types.Slot.{Slot as Held}
use Rattle.slot_values.specs.Ends.{End}

-- the code's own types as the definitions have them
abbrev pub slot_as : Held → Slot
slot_as slot = record { unit = slot.unit; least = slot.least; greatest = slot.greatest }

abbrev pub loose_as : Ends → Loose
loose_as ends = record { lo = ends.lo; hi = ends.hi }

-- a loose value has its ends in order and in the range of its slot
pub record IsInSlot (slot : Slot) (loose : Loose) : Type 0 where
  pub at_least : slot.least ≤ℤ loose.lo
  pub in_order : loose.lo ≤ℤ loose.hi
  pub at_most : loose.hi ≤ℤ slot.greatest

-- a number on the way from one to another at an end, in parts of the end's denominator
abbrev pub between : ℤ → ℤ → End → ℤ
between from to x = from *ℤ pos x.den +ℤ (to -ℤ from) *ℤ x.num

-- a number over so many parts, rounded half up
abbrev pub half_up : ℤ → ℤ → ℤ
half_up value parts = int_div_euclid (pos 2 *ℤ value +ℤ parts) (pos 2 *ℤ parts)

-- the value of a slot at an end: rounded half up, and held in the range
abbrev pub rounded_at : Slot → ℤ → ℤ → End → ℤ
rounded_at slot from to x = half_up (between from to x) (pos (slot.unit * x.den))

abbrev pub value_at : Slot → ℤ → ℤ → End → ℤ
value_at slot from to x = held slot (rounded_at slot from to x)

-- the values at two ends, the lesser first
abbrev pub loose_of : ℤ → ℤ → Loose
loose_of a b = record { lo = int_min a b; hi = int_max a b }

abbrev pub slot_between : Slot → ℤ → ℤ → End → End → Loose
slot_between slot from to least greatest = loose_of (value_at slot from to least) (value_at slot from to greatest)
