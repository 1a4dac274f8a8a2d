-- Rounding half up: the greatest whole number that is at most the number plus one half.
use Rattle.std.specs.Prelude.{ℕ, ℤ, pos, ◌*◌, ◌+ℤ◌, ◌-ℤ◌, ◌*ℤ◌, ◌≤ℤ◌, ◌<ℤ◌}
use Rattle.fix_span.specs.Rational.{Rational}

-- a whole number is what a rational number, divided by a unit, rounds to: v - 1/2 <= p / unit < v + 1/2
pub record IsRounded (p : Rational) (unit : ℕ) (v : ℤ) : Type 0 where
  pub least : ((pos 2 *ℤ v -ℤ pos 1) *ℤ pos (unit * p.den)) ≤ℤ (pos 2 *ℤ p.num)
  pub greatest : (pos 2 *ℤ p.num) <ℤ ((pos 2 *ℤ v +ℤ pos 1) *ℤ pos (unit * p.den))
