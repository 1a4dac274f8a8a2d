-- Whole values of slots. Those on the way between two values are of an implementation that shares nothing with these definitions,
-- or of worked pages: left 10px to 11px half way, left -10.5px, opacity 0.5.
use Rattle.std.specs.Prelude.{ℕ, ℤ, pos, neg_ℤ, ◌≡◌}
use Rattle.page_model.specs.Slot.{Shade, Slot, alpha, channel_value, cover, extent, own_level, position, slot_value}
use Rattle.time_values.specs.Examples.{fraction}

-- a value without animation, which is on its way to itself
abbrev still_value : Slot → ℤ → ℤ
still_value slot v = slot_value slot v v (fraction 0 1)

-- a channel of a colour with an alpha, and of an opaque one
abbrev shade : ℕ → ℕ → Shade
shade level alpha = record { level = level; alpha = alpha }

abbrev opaque_shade : ℕ → Shade
opaque_shade level = shade level 255000

-- a half is rounded up, also below zero
pub record HalvesGoUp : Type 0 where
  pub channel_half : channel_value (opaque_shade 222) (opaque_shade 255) (fraction 1 2) ≡ pos 239
  pub black_to_white_half : channel_value (opaque_shade 0) (opaque_shade 255) (fraction 1 2) ≡ pos 128
  pub edge_half : slot_value position (pos 1000) (pos 1100) (fraction 1 2) ≡ pos 11
  pub edge_below_half : slot_value position (pos 1000) (pos 1100) (fraction 59 120) ≡ pos 10
  pub still_half_below_zero : still_value position (neg_ℤ (pos 1050)) ≡ neg_ℤ (pos 10)
  pub still_opacity : still_value alpha (pos 127500) ≡ pos 128

-- other values, up, down and below zero
pub record OtherValues : Type 0 where
  pub channel_up : channel_value (opaque_shade 16) (opaque_shade 255) (fraction 43 60) ≡ pos 187
  pub channel_of_covers : channel_value (shade 232 0) (shade 89 255000) (fraction 11 12) ≡ pos 89
  pub channel_gone : channel_value (shade 230 0) (shade 121 127500) (fraction 0 1) ≡ pos 0
  pub cover_up : slot_value cover (pos 0) (pos 255000) (fraction 11 12) ≡ pos 234
  pub alpha_up : slot_value alpha (pos 78397) (pos 189946) (fraction 3 4) ≡ pos 162
  pub length_down : slot_value position (neg_ℤ (pos 639967)) (neg_ℤ (pos 819200)) (fraction 11 30) ≡ neg_ℤ (pos 7057)
  pub length_up : slot_value position (neg_ℤ (pos 690721)) (pos 819200) (fraction 1 4) ≡ neg_ℤ (pos 3132)
  pub length_at_start : slot_value position (neg_ℤ (pos 146556)) (neg_ℤ (pos 819200)) (fraction 0 1) ≡ neg_ℤ (pos 1466)

-- past a range the nearest value in it
pub record HeldInRange : Type 0 where
  pub above_a_channel : own_level (opaque_shade 256) ≡ pos 255
  pub above_a_cover : still_value cover (pos 255500) ≡ pos 255
  pub below_a_cover : still_value cover (neg_ℤ (pos 501)) ≡ pos 0
  pub below_an_extent : still_value extent (neg_ℤ (pos 51)) ≡ pos 0
  pub above_an_extent : still_value extent (pos 819251) ≡ pos 8192
  pub below_a_position : still_value position (neg_ℤ (pos 819251)) ≡ neg_ℤ (pos 8192)
