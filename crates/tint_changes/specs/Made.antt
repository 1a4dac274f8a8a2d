-- The changes that two tints make, all at once.
use Rattle.std.specs.Prelude.{ℕ, ◌≡◌, ◌↔◌, ◌+◌, ◌*◌, ◌^◌, ◌<◌, ◌≤◌, IsTrue, false}
use Rattle.page_model.specs.declared.colour.Tint.{Tint}
use Rattle.page_model.specs.Change.{HasSaturated}
use Rattle.page_model.specs.Light.{luma_of}
use Rattle.tint_changes.specs.declared.changes.Change.{Change}
use Rattle.tint_changes.specs.declared.changes.Change.TheVariants.{PossibleRise, PossibleFall, SureRise, SureFall, PossiblyIntoRed, PossiblyOutOfRed, SurelyIntoRed, SurelyOutOfRed}
use Rattle.tint_changes.specs.declared.made.Light.{Light}
use Rattle.tint_changes.specs.declared.made.Made.{Made}
use Rattle.tint_changes.specs.declared.made.NextTint.{NextTint}
use Rattle.tint_changes.specs.Counting.{Makes}

-- the luminances of a tint's two ends
pub record IsLightOf (tint : Tint) (light : Light) : Type 0 where
  pub least : light.least ≡ luma_of tint.lo
  pub greatest : light.greatest ≡ luma_of tint.hi
  pub least_most : light.least ≤ 10000 * 2 ^ 32
  pub greatest_most : light.greatest ≤ 10000 * 2 ^ 32

-- a luminance rises to another
abbrev pub IsLighter : ℕ → ℕ → Type 0
IsLighter before after = (before < 8000 * 2 ^ 32) × (before + 1000 * 2 ^ 32 ≤ after)

-- the next tint is known by bounds of the luminance that rises or falls to its ends, and by whether a corner of it is saturated
pub record IsKnown (next : NextTint) : Type 0 where
  pub rise : (light : ℕ) → (light < next.rise_below) ↔ IsLighter light (luma_of next.tint.hi)
  pub fall : (light : ℕ) → light ≤ 10000 * 2 ^ 32 → (next.fall_from ≤ light) ↔ IsLighter (luma_of next.tint.lo) light
  pub sure_rise : (light : ℕ) → (light < next.sure_rise_below) ↔ IsLighter light (luma_of next.tint.lo)
  pub sure_fall : (light : ℕ) → light ≤ 10000 * 2 ^ 32 → (next.sure_fall_from ≤ light) ↔ IsLighter (luma_of next.tint.hi) light
  pub red : IsTrue next.is_red ↔ HasSaturated next.tint

-- of a change, its opposite, and the sure ones of both, which are made between two tints
pub record MadeBy (rise fall sure_rise sure_fall : Change) (from to : Tint) (made : Made) : Type 0 where
  pub up : IsTrue made.up ↔ Makes rise from to
  pub down : IsTrue made.down ↔ Makes fall from to
  pub surely_up : IsTrue made.surely_up ↔ Makes sure_rise from to
  pub surely_down : IsTrue made.surely_down ↔ Makes sure_fall from to

-- those of luminance
abbrev pub MadeByLight : Tint → Tint → Made → Type 0
MadeByLight from to made = MadeBy PossibleRise PossibleFall SureRise SureFall from to made

-- and those of red
abbrev pub MadeByRed : Tint → Tint → Made → Type 0
MadeByRed from to made = MadeBy PossiblyIntoRed PossiblyOutOfRed SurelyIntoRed SurelyOutOfRed from to made

-- none is made
pub record IsNone (made : Made) : Type 0 where
  pub up : made.up ≡ false
  pub down : made.down ≡ false
  pub surely_up : made.surely_up ≡ false
  pub surely_down : made.surely_down ≡ false
