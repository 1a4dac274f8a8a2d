-- Fractions as the code has them: exact results of the operations, and which point a fraction is.
use Rattle.std.specs.Prelude.{ℕ, ℤ, Bool, pos, int_le, ◌≡◌, ◌<◌, ◌+◌, ◌*◌, ◌/◌, if◌then◌else◌, ◌+ℤ◌, ◌-ℤ◌, ◌*ℤ◌, ◌≤ℤ◌, ◌<ℤ◌, nat_abs, FitsSigned}
use Rattle.std.specs.Int.{int_div_euclid, int_rem_euclid, w32, w128}
use Rattle.page_model.specs.Fraction.{Fraction}
use Rattle.fix_span.specs.declared.frac.Frac.{Frac}
use Rattle.fix_span.specs.Rational.{Rational}

-- a fraction of the definitions
abbrev pub frac_of : Fraction → Frac
frac_of x = record { num = pos x.num; den = pos x.den }

-- a fraction that isn't negative, as the definitions have it
abbrev pub fraction_of : Frac → Fraction
fraction_of x = record { num = nat_abs x.num; den = nat_abs x.den }

-- a whole number
abbrev pub whole_frac : ℤ → Frac
whole_frac n = record { num = n; den = pos 1 }

-- the sum, the difference and the product, over the product of the denominators
abbrev pub sum : Frac → Frac → Frac
sum x y = record { num = x.num *ℤ y.den +ℤ y.num *ℤ x.den; den = x.den *ℤ y.den }

abbrev pub difference : Frac → Frac → Frac
difference x y = record { num = x.num *ℤ y.den -ℤ y.num *ℤ x.den; den = x.den *ℤ y.den }

abbrev pub product : Frac → Frac → Frac
product x y = record { num = x.num *ℤ y.num; den = x.den *ℤ y.den }

-- both numbers of a fraction fit their type
pub record Fits (x : Frac) : Type 0 where
  pub num : FitsSigned w128 x.num
  pub den : FitsSigned w128 x.den

-- a fraction with a positive denominator is this rational number
pub record IsNumber (x : Frac) (p : Rational) : Type 0 where
  pub positive : pos 0 <ℤ x.den
  pub some_parts : 0 < p.den
  pub same : p.num *ℤ x.den ≡ x.num *ℤ pos p.den

-- a fraction lies from 0 to 1
pub record IsShare (x : Frac) : Type 0 where
  pub positive : pos 0 <ℤ x.den
  pub at_least_zero : pos 0 ≤ℤ x.num
  pub at_most_one : x.num ≤ℤ x.den

-- a fraction divided by a unit and rounded half up
abbrev pub half_up : Frac → ℕ → ℤ
half_up x unit = int_div_euclid (x.num *ℤ pos 2 +ℤ pos unit *ℤ x.den) (pos (2 * unit) *ℤ x.den)

-- its whole part
abbrev pub whole_part : Frac → ℤ
whole_part x = int_div_euclid x.num x.den

-- what is left of it beside its whole part is one half or more
abbrev pub is_past_half : Frac → Bool
is_past_half x = int_le x.den (pos 2 *ℤ int_rem_euclid x.num x.den)

-- half of a unit, rounded down, or up where there is more
abbrev pub half_of_unit : Frac → ℕ → ℕ
half_of_unit x unit = (unit + (if is_past_half x then 1 else 0)) / 2

-- a fraction can be rounded in a unit: the whole number that it rounds to fits its type
pub record CanRound (x : Frac) (unit : ℕ) : Type 0 where
  pub positive : pos 0 <ℤ x.den
  pub some_unit : 0 < unit
  pub fits : FitsSigned w32 (half_up x unit)
