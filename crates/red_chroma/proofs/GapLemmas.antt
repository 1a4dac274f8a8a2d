-- The greatest absolute value of a difference of two coordinates, each between two ends.
use Rattle.std.proofs.Common.{ℕ, ℤ, pos, negsuc, ◌≡◌, ◌+◌, ◌-◌, ◌≤◌, ◌-ℤ◌, ◌≤ℤ◌, arith}
use Rattle.std.specs.Prelude.{max, nat_abs}
use Rattle.std.proofs.lemmas.Int.{ints}
use Rattle.page_model.specs.Change.{greatest_gap}
use Rattle.fix_span.specs.declared.span.Span.{Span}
use Rattle.red_chroma.specs.Enclosing.{IsCoordinate, ends_of}

apart : (a b : ℕ) → nat_abs (pos a -ℤ pos b) ≡ (a - b) + (b - a)
apart a b = omega (arith, ints)

greatest : (l h m n : ℕ) → l ≤ h → m ≤ n → max ((l - n) + (n - l)) ((h - m) + (m - h)) ≡ max (h - m) (n - l)
greatest l h m n first second = omega (arith, first, second)

sizes : (l h m n : ℤ) → pos 0 ≤ℤ l → l ≤ℤ h → pos 0 ≤ℤ m → m ≤ℤ n
    → max (nat_abs (l -ℤ n)) (nat_abs (h -ℤ m)) ≡ max (nat_abs h - nat_abs m) (nat_abs n - nat_abs l)
sizes (pos l) (pos h) (pos m) (pos n) low first low' second =
    rw (apart l n, apart h m) (greatest l h m n (omega (arith, ints, first)) (omega (arith, ints, second)))
sizes (negsuc l) h m n low first low' second = absurd (omega (arith, ints, low))
sizes (pos l) (negsuc h) m n low first low' second = absurd (omega (arith, ints, first))
sizes (pos l) (pos h) (negsuc m) n low first low' second = absurd (omega (arith, ints, low'))
sizes (pos l) (pos h) (pos m) (negsuc n) low first low' second = absurd (omega (arith, ints, second))

pub greatest_size-is : (x y : Span 40) → IsCoordinate x → IsCoordinate y
    → max (nat_abs (x.lo -ℤ y.hi)) (nat_abs (x.hi -ℤ y.lo)) ≡ greatest_gap (ends_of x) (ends_of y)
greatest_size-is x y first second = sizes x.lo x.hi y.lo y.hi first.least first.ordered second.least second.ordered
