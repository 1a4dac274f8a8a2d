-- A wrong definition of what a curve reaches.
use Rattle.std.specs.Prelude.{ℕ, ℤ, pos, ◌*◌, ◌*ℤ◌, ◌≤ℤ◌}
use Rattle.page_model.specs.Curve.{curve_height}
use Rattle.page_model.specs.Fraction.{Fraction}
use Rattle.curve_laws.specs.CurveLaws.{ReachesCoarser}

-- the height at the scale alone decides, without a slack: as if the last point before the input were at the input
abbrev pub ReachesBarelyAt : ℕ → ℤ → ℕ → ℤ → Fraction → ℤ → ℤ → ℕ → Type 0
ReachesBarelyAt x1 y1 x2 y2 at a b m = (b *ℤ pos (1000 * (m * m * m))) ≤ℤ (a *ℤ curve_height x1 y1 x2 y2 at m)

-- the middle of a straight curve is reached at scale 2, and not at scale 1, which has no point there
abbrev pub BareReachBreaks : Type 0
BareReachBreaks = ReachesCoarser ReachesBarelyAt → ⊥
