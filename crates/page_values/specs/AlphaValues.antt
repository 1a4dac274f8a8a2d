-- Channels between colours with alpha, and layers of such colours over white. The numbers are those of an implementation that shares
-- nothing with these definitions.
use Rattle.std.specs.Prelude.{ℕ, ℤ, pos, true, ◌≡◌}
use Rattle.page_model.specs.declared.easing.Easing.TheVariants.{Linear}
use Rattle.page_model.specs.Colour.{over}
use Rattle.page_model.specs.Fraction.{Fraction}
use Rattle.page_model.specs.LayerAt.{State}
use Rattle.page_model.specs.Red.{white}
use Rattle.page_model.specs.Slot.{Shade, IsChannelValue, IsSlotValue, cover}
use Rattle.time_values.specs.Examples.{fraction, rgb}

abbrev pub shade : ℕ → ℕ → Shade
shade level alpha = record { level = level; alpha = alpha }

-- the channel and the cover at a fraction of the way
pub record IsAt (x : Fraction) (from to : Shade) (level covers : ℤ) : Type 0 where
  pub channel : IsChannelValue Linear x from to level
  pub covered : IsSlotValue cover Linear x (pos from.alpha) (pos to.alpha) covers

-- a red layer, by its cover
abbrev pub red_state : ℕ → ℕ → State
red_state red covers = record {
  red = red;
  green = 0;
  blue = 0;
  cover = covers;
  alpha = 255;
  shown = true;
  left = pos 0;
  top = pos 0;
  width = pos 10;
  height = pos 10;
}

-- from transparent to red the channel is red on the whole way, and only the cover grows; where the alpha is 0 at an end, the channel
-- is 0; and from one alpha to another the channel goes by the premultiplied colours
pub record AlphaValues : Type 0 where
  pub from_transparent : IsAt (fraction 1 2) (shade 0 0) (shade 255 255000) (pos 255) (pos 128)
  pub at_transparent : IsAt (fraction 0 1) (shade 230 0) (shade 121 127500) (pos 0) (pos 0)
  pub late : IsAt (fraction 11 12) (shade 232 0) (shade 89 255000) (pos 89) (pos 234)
  pub nearly_gone : IsAt (fraction 13 15) (shade 43 255) (shade 117 0) (pos 43) (pos 0)
  pub half : over (red_state 255 128) 255 white ≡ rgb 0xff 0x7f 0x7f
  pub half_of_half : over (red_state 255 128) 128 white ≡ rgb 0xff 0xbf 0xbf
  pub clear : over (red_state 255 0) 255 white ≡ white
