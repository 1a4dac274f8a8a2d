-- What a colour comes to by `light`, and why.
use Rattle.std.specs.Prelude.{◌≡◌, ◌↔◌, IsTrue, ⊤}
use Rattle.page_model.specs.Light.{linear_of, luma_of}
use Rattle.page_model.specs.Red.{IsSaturated}
use Rattle.page_model.specs.declared.colour.Rgb.{Rgb}
use Rattle.flash_top.specs.declared.outcome.Light.{Light}
use Rattle.flash_top.specs.declared.outcome.Outcome.{Outcome}
use Rattle.flash_top.specs.declared.outcome.Outcome.TheVariants.{Lit, NoMemory}

-- the linear light of each channel, the relative luminance, and whether the colour is a saturated red
pub record IsLightOf (colour : Rgb) (light : Light) : Type 0 where
  pub red : light.red ≡ linear_of colour.r
  pub green : light.green ≡ linear_of colour.g
  pub blue : light.blue ≡ linear_of colour.b
  pub luma : light.luma ≡ luma_of colour
  pub saturated : IsTrue light.saturated ↔ IsSaturated colour

abbrev pub IsLit : Rgb → Outcome → Type 0
IsLit colour (Lit light) = IsLightOf colour light
IsLit colour NoMemory = ⊤
IsLit colour other = ⊥
