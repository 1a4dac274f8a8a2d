-- A curve begins at 0 and ends at 1, exactly, whatever is known of it between. And what counts of a fraction is its number.
use Rattle.std.specs.Prelude.{ℕ, ℤ, pos, Bool, ◌≡◌, ◌↔◌, ◌<◌, ◌≤ℤ◌}
use Rattle.page_model.specs.declared.easing.Easing.{Easing}
use Rattle.page_model.specs.Curve.{CurveReaches, Reaches}
use Rattle.page_model.specs.Fraction.{Fraction, SameNumber}
use Rattle.page_model.specs.Slot.{IsShownValue, IsSlotValue, Slot}

-- at 0 a curve's value is 0: a times it reaches what 0 does; and at 1 it is 1
pub record CurveEnds : Type 0 where
  pub begins : (x1 : ℕ) (y1 : ℤ) (x2 : ℕ) (y2 : ℤ) (at : Fraction) (a b : ℤ) → at.num ≡ 0 → 0 < at.den
      → (CurveReaches x1 y1 x2 y2 at a b ↔ (b ≤ℤ pos 0))
  pub ends : (x1 : ℕ) (y1 : ℤ) (x2 : ℕ) (y2 : ℤ) (at : Fraction) (a b : ℤ) → at.num ≡ at.den → 0 < at.den
      → (CurveReaches x1 y1 x2 y2 at a b ↔ (b ≤ℤ a))

-- at two fractions that are one number the same is reached, a slot has the same value, and the same is shown
pub record CountsByNumber : Type 0 where
  pub reach : (easing : Easing) (x y : Fraction) (a b : ℤ) → 0 < x.den → 0 < y.den → SameNumber x y
      → (Reaches easing x a b ↔ Reaches easing y a b)
  pub slot : (slot : Slot) (easing : Easing) (x y : Fraction) (from to v : ℤ) → 0 < x.den → 0 < y.den → SameNumber x y
      → (IsSlotValue slot easing x from to v ↔ IsSlotValue slot easing y from to v)
  pub shown : (easing : Easing) (x y : Fraction) (from to shown : Bool) → 0 < x.den → 0 < y.den → SameNumber x y
      → (IsShownValue easing x from to shown ↔ IsShownValue easing y from to shown)
