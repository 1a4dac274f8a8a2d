-- The eased value of an input: CSS Easing Functions Level 1. A cubic Bézier curve's value is no fraction, and no definition
-- here computes it: what is said of it is which bounds it reaches, by points of the curve at ever finer scales. At a scale M the
-- curve has the points 0 to M; the column (x) never falls, and the height (y) changes by at most 24 for each unit of the
-- parameter, so the height at the last point not right of the input is within 24 / M of the curve's value.
use Rattle.std.specs.Prelude.{ℕ, ℤ, pos, Bool, ◌+◌, ◌-◌, ◌*◌, ◌^◌, ◌/◌, ◌+ℤ◌, ◌*ℤ◌, ◌≤ℤ◌, min, nat_le, nat_abs}
use Rattle.page_model.specs.declared.easing.Jump.{Jump}
use Rattle.page_model.specs.declared.easing.Jump.TheVariants.{Start, End, Neither, Both}
use Rattle.page_model.specs.declared.easing.Easing.{Easing}
use Rattle.page_model.specs.declared.easing.Easing.TheVariants.{Linear, Steps, Cubic}
use Rattle.page_model.specs.Fraction.{Fraction}
use Rattle.page_model.specs.Least.{greatest_up_to}

-- the three terms of a cubic Bézier curve from 0 to 1000 at point j, where i points are left
abbrev pub first_term : ℕ → ℕ → ℕ
first_term i j = 3 * (j * (i * i))

abbrev pub second_term : ℕ → ℕ → ℕ
second_term i j = 3 * (j * j * i)

abbrev pub last_term : ℕ → ℕ
last_term j = 1000 * (j * j * j)

-- the column of point j of M, in parts of 1000 M^3
abbrev pub column_at : ℕ → ℕ → ℕ → ℕ → ℕ
column_at x1 x2 i j = x1 * first_term i j + x2 * second_term i j + last_term j

-- its height, in parts of 1000 M^3
abbrev pub height_at : ℤ → ℤ → ℕ → ℕ → ℤ
height_at y1 y2 i j = y1 *ℤ pos (first_term i j) +ℤ y2 *ℤ pos (second_term i j) +ℤ pos (last_term j)

-- point j of M isn't right of the input
abbrev pub is_left : ℕ → ℕ → Fraction → ℕ → ℕ → Bool
is_left x1 x2 at m j = nat_le (column_at x1 x2 (m - j) j * at.den) (at.num * (1000 * (m * m * m)))

-- the last such point
unfoldable pub point_of : ℕ → ℕ → Fraction → ℕ → ℕ
point_of x1 x2 at m = greatest_up_to m (is_left x1 x2 at m)

-- the height of that point, in parts of 1000 M^3
abbrev pub curve_height : ℕ → ℤ → ℕ → ℤ → Fraction → ℕ → ℤ
curve_height x1 y1 x2 y2 at m = height_at y1 y2 (m - point_of x1 x2 at m) (point_of x1 x2 at m)

-- a times the height at scale M, with the slack of that scale, is b or more
abbrev pub ReachesAt : ℕ → ℤ → ℕ → ℤ → Fraction → ℤ → ℤ → ℕ → Type 0
ReachesAt x1 y1 x2 y2 at a b m =
    (b *ℤ pos (1000 * (m * m * m))) ≤ℤ (a *ℤ curve_height x1 y1 x2 y2 at m +ℤ pos (24000 * nat_abs a * (m * m)))

-- a times the curve's value at the input is b or more: so it is at each scale that is a power of two
abbrev pub CurveReaches : ℕ → ℤ → ℕ → ℤ → Fraction → ℤ → ℤ → Type 0
CurveReaches x1 y1 x2 y2 at a b = (e : ℕ) → ReachesAt x1 y1 x2 y2 at a b (2 ^ e)

-- how many jumps a step easing makes
abbrev pub jumps_of : ℕ → Jump → ℕ
jumps_of count Start = count
jumps_of count End = count
jumps_of count Neither = count - 1
jumps_of count Both = count + 1

-- how many of them it makes at the start of its first step
abbrev pub first_jumps : Jump → ℕ
first_jumps Start = 1
first_jumps End = 0
first_jumps Neither = 0
first_jumps Both = 1

-- the output of a step easing: the jumps made by the current step, over all jumps
abbrev pub stepped : ℕ → Jump → Fraction → Fraction
stepped count jump at = record {
  num = min (at.num * count / at.den + first_jumps jump) (jumps_of count jump);
  den = jumps_of count jump;
}

-- a times a fraction is b or more
abbrev pub FractionReaches : Fraction → ℤ → ℤ → Type 0
FractionReaches x a b = (b *ℤ pos x.den) ≤ℤ (a *ℤ pos x.num)

-- a times the eased value of an input from 0 to 1 is b or more
abbrev pub Reaches : Easing → Fraction → ℤ → ℤ → Type 0
Reaches Linear at a b = FractionReaches at a b
Reaches (Steps count jump) at a b = FractionReaches (stepped count jump at) a b
Reaches (Cubic x1 y1 x2 y2) at a b = CurveReaches x1 y1 x2 y2 at a b

-- the eased value itself, where it is a fraction: by `linear` and `steps`. A curve's is none; the input stands for it here, and
-- nothing is said of it.
abbrev pub eased : Easing → Fraction → Fraction
eased Linear at = at
eased (Steps count jump) at = stepped count jump at
eased (Cubic x1 y1 x2 y2) at = at
