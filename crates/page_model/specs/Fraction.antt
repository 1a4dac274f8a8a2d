-- Fractions, as the exact values of the definitions: a number of parts of a unit. The project's own.
use Rattle.std.specs.Prelude.{ℕ, ◌≡◌, ◌*◌, ◌<◌}

-- num / den, where den is positive
pub record Fraction : Type 0 where
  pub num : ℕ
  pub den : ℕ

abbrev pub zero_of_one : Fraction
zero_of_one = record { num = 0; den = 1 }

abbrev pub one_of_one : Fraction
one_of_one = record { num = 1; den = 1 }

-- two fractions are one number
abbrev pub SameNumber : Fraction → Fraction → Type 0
SameNumber x y = x.num * y.den ≡ y.num * x.den

-- strictly between 0 and 1
pub record IsInner (x : Fraction) : Type 0 where
  pub above_zero : 0 < x.num
  pub below_one : x.num < x.den
