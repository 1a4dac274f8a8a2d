-- The numbers between which a curve's value lies, as the program has them, and the stretch of a curve in which an input
-- is found.
use Rattle.std.specs.Prelude.{ℕ, ℤ, pos, ◌+◌, ◌-◌, ◌*◌, ◌^◌, ◌<◌, ◌≤◌, ◌*ℤ◌, ◌≤ℤ◌}
use Rattle.std.specs.Int.{int_min, int_max}
use Rattle.page_model.specs.Curve.{column_at, first_term, second_term, CurveReaches}
use Rattle.page_model.specs.Enclosure.{own_scale, own_least, own_greatest}
use Rattle.page_model.specs.Fraction.{Fraction}
use Rattle.curve_laws.specs.EnclosureLaws.{IsNear}
use Rattle.fix_span.specs.declared.span.Span.{Span}

-- the own interval of a curve's value
abbrev pub own_span : ℕ → ℤ → ℕ → ℤ → Fraction → Span 30
own_span x1 y1 x2 y2 at = record { lo = own_least x1 y1 x2 y2 at; hi = own_greatest x1 y1 x2 y2 at }

-- a curve's value lies between two ends: what both of them reach it reaches, and what it reaches one of them does
pub record HoldsCurve (x1 : ℕ) (y1 : ℤ) (x2 : ℕ) (y2 : ℤ) (at : Fraction) (span : Span 30) : Type 0 where
  pub all : (a b : ℤ) → (b *ℤ pos (2 ^ 30)) ≤ℤ int_min (a *ℤ span.lo) (a *ℤ span.hi) → CurveReaches x1 y1 x2 y2 at a b
  pub some : (a b : ℤ) → CurveReaches x1 y1 x2 y2 at a b → (b *ℤ pos (2 ^ 30)) ≤ℤ int_max (a *ℤ span.lo) (a *ℤ span.hi)

-- each end is less than 2^-16 away from it
pub record AreNear (x1 : ℕ) (y1 : ℤ) (x2 : ℕ) (y2 : ℤ) (at : Fraction) (span : Span 30) : Type 0 where
  pub lo : IsNear x1 y1 x2 y2 at span.lo
  pub hi : IsNear x1 y1 x2 y2 at span.hi

-- how many parts of a column or a height make one at the program's scale
abbrev pub own_unit : ℕ
own_unit = 1000 * (own_scale * own_scale * own_scale)

-- the columns of a stretch of so many steps behind a place begin at most at a limit, and end right of it
pub record LiesOn (x1 x2 limit place steps : ℕ) : Type 0 where
  pub inside : place + steps ≤ own_scale
  pub begins : column_at x1 x2 (own_scale - place) place ≤ limit
  pub ends : limit < column_at x1 x2 (own_scale - (place + steps)) (place + steps)

-- what control points that are 4 higher add to the height of point j, where i points are left
abbrev pub raise : ℕ → ℕ → ℕ
raise i j = 4000 * first_term i j + 4000 * second_term i j
