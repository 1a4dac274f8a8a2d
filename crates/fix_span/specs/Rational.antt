-- Rational numbers, of which the laws of enclosing numbers speak: whole numbers of parts of a unit, where a unit has a positive
-- number of parts. They need not be in least terms.
use Rattle.std.specs.Prelude.{ℕ, ℤ, pos, ◌*◌, ◌+ℤ◌, ◌-ℤ◌, ◌*ℤ◌}

pub record Rational : Type 0 where
  pub num : ℤ
  pub den : ℕ

-- a whole number
abbrev pub whole_point : ℤ → Rational
whole_point n = record { num = n; den = 1 }

-- the sum, the difference and the product of two
abbrev pub sum_of : Rational → Rational → Rational
sum_of p q = record { num = p.num *ℤ pos q.den +ℤ q.num *ℤ pos p.den; den = p.den * q.den }

abbrev pub difference_of : Rational → Rational → Rational
difference_of p q = record { num = p.num *ℤ pos q.den -ℤ q.num *ℤ pos p.den; den = p.den * q.den }

abbrev pub product_of : Rational → Rational → Rational
product_of p q = record { num = p.num *ℤ q.num; den = p.den * q.den }

-- the number on the way from one to another, so much of the way
abbrev pub mixed_of : Rational → Rational → Rational → Rational
mixed_of from to at = sum_of from (product_of (difference_of to from) at)
