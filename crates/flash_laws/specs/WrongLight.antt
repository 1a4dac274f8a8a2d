-- Wrong definitions of light and red.
use Rattle.std.specs.Prelude.{◌+◌, ◌-◌, ◌*◌, ◌^◌, ◌<◌, ◌≤◌}
use Rattle.page_model.specs.declared.colour.Rgb.{Rgb}
use Rattle.page_model.specs.Light.{linear_of, luma_of}
use Rattle.page_model.specs.Red.{Chromaticity, squared}
use Rattle.flash_laws.specs.LightLaws.{BeginsInTheDark, HoldsOfNoGrey, IsSymmetric}

-- a rise by a tenth from any luminance, without the limit of 0.8
abbrev pub IsRiseAnywhere : Rgb → Rgb → Type 0
IsRiseAnywhere a b = luma_of a + 1000 * 2 ^ 32 ≤ luma_of b

-- a light grey rises to white by it
abbrev pub RiseAnywhereBreaks : Type 0
RiseAnywhereBreaks = BeginsInTheDark IsRiseAnywhere → ⊥

-- four times the rest or more of red, though there may be none
abbrev pub IsMostlyRed : Rgb → Type 0
IsMostlyRed c = 4 * (linear_of c.g + linear_of c.b) ≤ linear_of c.r

-- black is saturated by it
abbrev pub MostlyRedBreaks : Type 0
MostlyRedBreaks = HoldsOfNoGrey IsMostlyRed → ⊥

-- far, where only what the first point has more than the second counts
abbrev pub AreFarOneWay : Chromaticity → Chromaticity → Type 0
AreFarOneWay p q =
    squared (p.over * q.over)
    < 25 * (squared (p.u * q.over - q.u * p.over) + squared (p.v * q.over - q.v * p.over))

-- red is far from black by it, and black isn't far from red
abbrev pub FarOneWayBreaks : Type 0
FarOneWayBreaks = IsSymmetric AreFarOneWay → ⊥
