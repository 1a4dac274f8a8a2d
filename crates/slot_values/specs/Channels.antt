-- The whole values of a colour's channel between two ends, by the premultiplied colours on the way.
use Rattle.std.specs.Prelude.{ℤ, pos, Bool, true, false, int_le}
use Rattle.page_model.specs.Enclosure.{Loose, any_level, one_value}
use Rattle.page_model.specs.Slot.{Shade, Slot, over_alpha, premultiplied}
use Rattle.slot_values.specs.declared.types.Shade.{Shade as Channel}
use Rattle.slot_values.specs.Ends.{End}
use Rattle.slot_values.specs.Slots.{between, loose_of}

-- the code's own type as the definitions have it
abbrev pub shade_as : Channel → Shade
shade_as shade = record { level = shade.level; alpha = shade.alpha }

-- the range of channels, covers and alphas
abbrev pub eight_bits : Slot
eight_bits = record { unit = 1; least = pos 0; greatest = pos 255 }

-- the alpha of a colour on its way at an end, whether it is gone there, and the channel that there is left
abbrev pub alpha_at : Shade → Shade → End → ℤ
alpha_at from to x = between (pos from.alpha) (pos to.alpha) x

abbrev pub is_gone_at : Shade → Shade → End → Bool
is_gone_at from to x = int_le (alpha_at from to x) (pos 0)

abbrev pub level_at : Shade → Shade → End → ℤ
level_at from to x =
    over_alpha (between (pos (premultiplied from)) (pos (premultiplied to)) x) (between (pos from.alpha) (pos to.alpha) x)

-- the channel by its values at two ends: 0 where the alpha is gone at both, and anything where it is gone at one of them
abbrev pub channel_left : Bool → Bool → ℤ → ℤ → Loose
channel_left true true a b = one_value (pos 0)
channel_left true false a b = any_level
channel_left false true a b = any_level
channel_left false false a b = loose_of a b

abbrev pub channel_between : Shade → Shade → End → End → Loose
channel_between from to least greatest =
    channel_left (is_gone_at from to least) (is_gone_at from to greatest) (level_at from to least) (level_at from to greatest)
