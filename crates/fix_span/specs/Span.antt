-- Numbers between two ends, in parts of 2^F: the exact ends of each operation's result, and which points lie between them. An end
-- that isn't a whole number of parts goes outwards: the lower one to its floor, the upper one to its ceiling.
use Rattle.std.specs.Prelude.{ℕ, ℤ, pos, ◌≡◌, ◌<◌, ◌≤◌, ◌*◌, ◌^◌, ◌+ℤ◌, ◌-ℤ◌, ◌*ℤ◌, ◌≤ℤ◌, neg_ℤ, nat_abs, FitsSigned}
use Rattle.std.specs.Int.{int_div_euclid, int_min, int_max, w32, w64}
use Rattle.fix_span.specs.declared.frac.Frac.{Frac}
use Rattle.fix_span.specs.declared.loose.Loose.{Loose}
use Rattle.fix_span.specs.declared.span.Span.{Span}
use Rattle.fix_span.specs.Frac.{half_up}
use Rattle.fix_span.specs.Rational.{Rational}

-- a rational number lies between the ends
pub record Holds (F : ℕ) (x : Span F) (p : Rational) : Type 0 where
  pub some_parts : 0 < p.den
  pub least : (x.lo *ℤ pos p.den) ≤ℤ (p.num *ℤ pos (2 ^ F))
  pub greatest : (p.num *ℤ pos (2 ^ F)) ≤ℤ (x.hi *ℤ pos p.den)

-- both ends fit their type
pub record Fits (F : ℕ) (x : Span F) : Type 0 where
  pub lo : FitsSigned w64 x.lo
  pub hi : FitsSigned w64 x.hi

-- a quotient rounded up
abbrev pub ceiling : ℤ → ℤ → ℤ
ceiling num den = int_div_euclid (num +ℤ (den -ℤ pos 1)) den

-- the floor of a quotient in so many parts, and what is left beside it: the ceiling is the floor, or one more
pub record IsFloorIn (num den : ℤ) (parts : ℕ) (floor : ℤ) (rest : ℕ) : Type 0 where
  pub is : floor ≡ int_div_euclid (num *ℤ pos parts) den
  pub none : rest ≡ 0 → ceiling (num *ℤ pos parts) den ≡ floor
  pub some : 0 < rest → ceiling (num *ℤ pos parts) den ≡ floor +ℤ pos 1

-- the least and the greatest of four numbers
abbrev pub least_of : ℤ → ℤ → ℤ → ℤ → ℤ
least_of a b c d = int_min (int_min a b) (int_min c d)

abbrev pub greatest_of : ℤ → ℤ → ℤ → ℤ → ℤ
greatest_of a b c d = int_max (int_max a b) (int_max c d)

abbrev pub whole_span : (F : ℕ) → ℤ → Span F
whole_span F n = record { lo = n *ℤ pos (2 ^ F); hi = n *ℤ pos (2 ^ F) }

abbrev pub sum : (F : ℕ) → Span F → Span F → Span F
sum F x y = record { lo = x.lo +ℤ y.lo; hi = x.hi +ℤ y.hi }

abbrev pub difference : (F : ℕ) → Span F → Span F → Span F
difference F x y = record { lo = x.lo -ℤ y.hi; hi = x.hi -ℤ y.lo }

abbrev pub negation : (F : ℕ) → Span F → Span F
negation F x = record { lo = neg_ℤ x.hi; hi = neg_ℤ x.lo }

-- the least and the greatest product of two ends
abbrev pub least_product : (F : ℕ) → Span F → Span F → ℤ
least_product F x y = least_of (x.lo *ℤ y.lo) (x.lo *ℤ y.hi) (x.hi *ℤ y.lo) (x.hi *ℤ y.hi)

abbrev pub greatest_product : (F : ℕ) → Span F → Span F → ℤ
greatest_product F x y = greatest_of (x.lo *ℤ y.lo) (x.lo *ℤ y.hi) (x.hi *ℤ y.lo) (x.hi *ℤ y.hi)

abbrev pub product : (F : ℕ) → Span F → Span F → Span F
product F x y = record {
  lo = int_div_euclid (least_product F x y) (pos (2 ^ F));
  hi = ceiling (greatest_product F x y) (pos (2 ^ F));
}

-- a fraction
abbrev pub frac_span : (F : ℕ) → Frac → Span F
frac_span F x = record {
  lo = int_div_euclid (x.num *ℤ pos (2 ^ F)) x.den;
  hi = ceiling (x.num *ℤ pos (2 ^ F)) x.den;
}

-- the quotient of two ends in parts of 2^F, rounded down and up
abbrev pub quotient_down : ℕ → ℤ → ℤ → ℤ
quotient_down F a b = int_div_euclid (a *ℤ pos (2 ^ F)) b

abbrev pub quotient_up : ℕ → ℤ → ℤ → ℤ
quotient_up F a b = ceiling (a *ℤ pos (2 ^ F)) b

-- the floor of the least quotient of two ends, which is the least floor, and the ceiling of the greatest
abbrev pub quotient : (F : ℕ) → Span F → Span F → Span F
quotient F x y = record {
  lo = least_of (quotient_down F x.lo y.lo) (quotient_down F x.lo y.hi) (quotient_down F x.hi y.lo) (quotient_down F x.hi y.hi);
  hi = greatest_of (quotient_up F x.lo y.lo) (quotient_up F x.lo y.hi) (quotient_up F x.hi y.lo) (quotient_up F x.hi y.hi);
}

-- the quotient of a rational number by a positive one
abbrev pub quotient_of : Rational → Rational → Rational
quotient_of p q = record { num = p.num *ℤ pos q.den; den = p.den * nat_abs q.num }

-- in parts of 2^G
abbrev pub widened : (F G : ℕ) → Span F → Span G
widened F G x = record {
  lo = int_div_euclid (x.lo *ℤ pos (2 ^ G)) (pos (2 ^ F));
  hi = ceiling (x.hi *ℤ pos (2 ^ G)) (pos (2 ^ F));
}

-- an end as a fraction
abbrev pub end_frac : ℕ → ℤ → Frac
end_frac F n = record { num = n; den = pos (2 ^ F) }

-- a span divided by a unit and rounded half up: its lower and its upper end
abbrev pub rounded : (F : ℕ) → Span F → ℕ → Loose
rounded F x unit = record { lo = half_up (end_frac F x.lo) unit; hi = half_up (end_frac F x.hi) unit }

-- a span can be rounded in a unit: the whole numbers that its ends round to fit their type
pub record CanRound (F : ℕ) (x : Span F) (unit : ℕ) : Type 0 where
  pub few : F ≤ 60
  pub some_unit : 0 < unit
  pub lo : FitsSigned w32 (rounded F x unit).lo
  pub hi : FitsSigned w32 (rounded F x unit).hi
