-- What is told of an eased value: the fraction that it is, where it is one, or else the ends between which a curve's value
-- lies.
use Rattle.std.specs.Prelude.{ℕ, ℤ, pos, neg_ℤ, ◌^◌, Bool, true, false, ◌↔◌, if◌then◌else◌}
use Rattle.page_model.specs.declared.easing.Easing.{Easing}
use Rattle.page_model.specs.declared.easing.Easing.TheVariants.{Linear, Steps, Cubic}
use Rattle.page_model.specs.Curve.{FractionReaches, Reaches, stepped}
use Rattle.page_model.specs.Enclosure.{is_inner}
use Rattle.page_model.specs.Fraction.{Fraction}
use Rattle.page_model.specs.ValidScene.{IsBetween}
use Rattle.fix_span.specs.declared.frac.Frac.{Frac}
use Rattle.fix_span.specs.declared.span.Span.{Span}
use Rattle.fix_span.specs.Frac.{frac_of, fraction_of}
use Rattle.easing_bounds.specs.declared.types.Eased.{Eased}
use Rattle.easing_bounds.specs.declared.types.Eased.TheVariants.{Exact, Within}
use Rattle.easing_bounds.specs.Within.{AreNear, HoldsCurve, own_span}

abbrev pub is_cubic : Easing → Bool
is_cubic Linear = false
is_cubic (Steps count jump) = false
is_cubic (Cubic x1 y1 x2 y2) = true

-- what is told of a curve: at 0 and 1 its value is the input, and strictly between them it lies in the own interval
abbrev pub curve_value : ℕ → ℤ → ℕ → ℤ → Fraction → Eased
curve_value x1 y1 x2 y2 at = if is_inner at then Within (own_span x1 y1 x2 y2 at) else Exact (frac_of at)

-- what is told of an easing at an input: the input itself, or its step, or a curve's value
abbrev pub eased_value : Easing → Fraction → Eased
eased_value Linear at = Exact (frac_of at)
eased_value (Steps count jump) at = Exact (frac_of (stepped count jump at))
eased_value (Cubic x1 y1 x2 y2) at = curve_value x1 y1 x2 y2 at

-- it is a fraction
abbrev pub IsExact : Eased → Type 0
IsExact (Exact y) = Unit {0}
IsExact (Within span) = ⊥

-- a fact holds of the fraction, where it is one
abbrev pub IfExact : (Frac → Type 0) → Eased → Type 0
IfExact P (Exact y) = P y
IfExact P (Within span) = Unit {0}

-- a fact holds of the two ends, where it is a curve's
abbrev pub IfWithin : (Span 30 → Type 0) → Eased → Type 0
IfWithin P (Exact y) = Unit {0}
IfWithin P (Within span) = P span

-- both ends are from -2^41 to 2^41: a curve's value isn't far from 0
pub record AreModest (span : Span 30) : Type 0 where
  pub lo : IsBetween (neg_ℤ (pos (2 ^ 41))) (pos (2 ^ 41)) span.lo
  pub hi : IsBetween (neg_ℤ (pos (2 ^ 41))) (pos (2 ^ 41)) span.hi

-- the eased value lies between two ends, each of which is near to it: it is a curve's
abbrev pub LiesWithin : Easing → Fraction → Span 30 → Type 0
LiesWithin Linear at span = ⊥
LiesWithin (Steps count jump) at span = ⊥
LiesWithin (Cubic x1 y1 x2 y2) at span = HoldsCurve x1 y1 x2 y2 at span × AreNear x1 y1 x2 y2 at span

-- what is told is so: a fraction reaches exactly what the eased value does, and other values lie between the ends
abbrev pub IsTold : Easing → Fraction → Eased → Type 0
IsTold easing at (Exact y) = (a b : ℤ) → (FractionReaches (fraction_of y) a b ↔ Reaches easing at a b)
IsTold easing at (Within span) = LiesWithin easing at span
