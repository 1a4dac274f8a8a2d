-- The former text of a channel: a slot with a unit of one, from 0 to 255, whatever the alpha.
use Rattle.std.specs.Prelude.{ℕ, ℤ, pos}
use Rattle.page_model.specs.declared.easing.Easing.{Easing}
use Rattle.page_model.specs.declared.easing.Easing.TheVariants.{Linear}
use Rattle.page_model.specs.declared.property.Value.{Value}
use Rattle.page_model.specs.Enclosure.{Kind, Loose, IsLoose}
use Rattle.page_model.specs.Fraction.{Fraction, zero_of_one}
use Rattle.page_model.specs.LayerAt.{Course, still, moving}
use Rattle.page_model.specs.Slot.{Slot, Shade, IsSlotValue}

abbrev pub channel : Slot
channel = record { unit = 1; least = pos 0; greatest = pos 255 }

abbrev pub IsFormerChannel : Easing → Fraction → ℕ → ℕ → ℤ → Type 0
IsFormerChannel easing at from to v = IsSlotValue channel easing at (pos from) (pos to) v

abbrev pub IsFormerLoose : Kind → Easing → Fraction → ℕ → ℕ → Loose → Type 0
IsFormerLoose kind easing at from to loose = IsLoose kind channel easing at (pos from) (pos to) loose

-- on a course; at a still value it was on its way from that value to itself
abbrev pub IsFormerChannelOn : (Value → Shade) → Course → ℤ → Type 0
IsFormerChannelOn part (still x) v = IsFormerChannel Linear zero_of_one (part x).level (part x).level v
IsFormerChannelOn part (moving i) v = IsFormerChannel i.easing i.distance (part i.from).level (part i.to).level v

abbrev pub IsFormerLooseOn : Kind → (Value → Shade) → Course → Loose → Type 0
IsFormerLooseOn kind part (still x) loose = IsFormerLoose kind Linear zero_of_one (part x).level (part x).level loose
IsFormerLooseOn kind part (moving i) loose = IsFormerLoose kind i.easing i.distance (part i.from).level (part i.to).level loose
