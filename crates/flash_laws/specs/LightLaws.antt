-- Laws of light: rises and falls, saturated red, and the luminance of white.
use Rattle.std.specs.Prelude.{ℕ, ◌≡◌, ◌↔◌, ◌*◌, ◌^◌, ◌<◌, ◌≤◌}
use Rattle.page_model.specs.declared.colour.Rgb.{Rgb}
use Rattle.page_model.specs.Light.{IsRise, IsFall, luma_of}
use Rattle.page_model.specs.Red.{Chromaticity, AreFar, IsSaturated, IsIntoRed, IsOutOfRed, chromaticity_of, white}

-- three equal channels
abbrev pub grey : ℕ → Rgb
grey n = record { r = n; g = n; b = n }

abbrev pub black : Rgb
black = grey 0

abbrev pub red : Rgb
red = record { r = 255; g = 0; b = 0 }

-- no change of two colours is one of the first sort and one of the second
abbrev pub Exclude : (Rgb → Rgb → Type 0) → (Rgb → Rgb → Type 0) → Type 0
Exclude Up Down = (a b : Rgb) → Up a b → Down a b → ⊥

-- a colour that stays makes no such change
abbrev pub NeedsChange : (Rgb → Rgb → Type 0) → Type 0
NeedsChange Changes = (a : Rgb) → Changes a a → ⊥

-- no colour from 0.8 of the luminance of white on changes so
abbrev pub BeginsInTheDark : (Rgb → Rgb → Type 0) → Type 0
BeginsInTheDark Changes = (a b : Rgb) → 8000 * 2 ^ 32 ≤ luma_of a → Changes a b → ⊥

pub record RiseAndFallExclude : Type 0 where
  pub exclude : Exclude IsRise IsFall
  pub rise_needs_change : NeedsChange IsRise
  pub fall_needs_change : NeedsChange IsFall
  pub rise_from_dark : BeginsInTheDark IsRise

-- no grey has a property
abbrev pub HoldsOfNoGrey : (Rgb → Type 0) → Type 0
HoldsOfNoGrey Holds = (n : ℕ) → Holds (grey n) → ⊥

pub record BlackIsNotRed : Type 0 where
  pub chromaticity : chromaticity_of black ≡ chromaticity_of white
  pub greys : HoldsOfNoGrey IsSaturated

-- what holds of two points holds of them the other way round
abbrev pub IsSymmetric : (Chromaticity → Chromaticity → Type 0) → Type 0
IsSymmetric Holds = (p q : Chromaticity) → Holds p q → Holds q p

-- a change into red read backwards is one out of red; black turning red is one, and a colour that stays makes none
pub record RedReadsBackwards : Type 0 where
  pub symmetric : IsSymmetric AreFar
  pub backwards : (a b : Rgb) → (IsIntoRed a b ↔ IsOutOfRed b a)
  pub some : IsIntoRed black red
  pub needs_change : NeedsChange IsIntoRed

-- where one channel is higher and no other lower, there is more light; the channels of a colour are below 256
pub record GrowsByChannel (luma : Rgb → ℕ) : Type 0 where
  pub red : (c d : Rgb) → c.r < d.r → d.r < 256 → c.g ≤ d.g → c.b ≤ d.b → luma c < luma d
  pub green : (c d : Rgb) → c.r ≤ d.r → c.g < d.g → d.g < 256 → c.b ≤ d.b → luma c < luma d
  pub blue : (c d : Rgb) → c.r ≤ d.r → c.g ≤ d.g → c.b < d.b → d.b < 256 → luma c < luma d

pub record WhiteIsBrightest : Type 0 where
  pub full : luma_of white ≡ 10000 * 2 ^ 32
  pub none : luma_of black ≡ 0
  pub most : (c : Rgb) → luma_of c ≤ luma_of white
  pub grows : GrowsByChannel luma_of
