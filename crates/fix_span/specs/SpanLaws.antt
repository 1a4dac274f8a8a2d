-- The laws of enclosing numbers hold of spans. They are lemmas, and stand here since an impl's laws cite `specs` alone.
use Rattle.std.proofs.Common.{ℕ, ℤ, pos, ◌≡◌, ◌*◌, ◌^◌, ◌<◌, ◌≤◌, ◌+ℤ◌, ◌-ℤ◌, ◌*ℤ◌, ◌≤ℤ◌, arith, ap, sym, subst}
use Rattle.std.proofs.lemmas.Int.{ints, clamps}
use Rattle.std.specs.Int.{int_div_euclid}
use Rattle.std.proofs.Math.Nat.{mul-le-mul}
use Rattle.fix_span.specs.declared.loose.Loose.{Loose}
use Rattle.fix_span.specs.declared.span.Span.{Span}
use Rattle.fix_span.specs.Span.{Holds, whole_span, sum, difference, product, least_product, greatest_product, ceiling, rounded}
use Rattle.fix_span.specs.Rational.{Rational, whole_point, sum_of, difference_of, product_of}
use Rattle.fix_span.specs.Rounding.{IsRounded}
use Rattle.fix_span.specs.CornerLaws.{product_least, product_greatest, ceiling_at_least, some_power}
use Rattle.fix_span.specs.IntLaws.{add-*ℤ, sub-*ℤ, times-times, times_le, cancel_le, *ℤ-swap}
use Rattle.fix_span.specs.RoundingLaws.{floor_at_most, floor_above, at_most_floor, least_end, greatest_end}

-- a whole number
pub Holds-whole : (F : ℕ) (n : ℤ) (x : Span F) → x ≡ whole_span F n → Holds F x (whole_point n)
Holds-whole F n x e =
    subst (λ (y : Span F). Holds F y (whole_point n)) (sym e) (record {
      some_parts = omega arith;
      least = rw (times-times n (2 ^ F) 1) (omega (arith, ints));
      greatest = rw (times-times n (2 ^ F) 1) (omega (arith, ints));
    })

-- fractions over a common denominator: l / s is at most p / b
sum_le : (l m p q : ℤ) (b d s : ℕ) → (l *ℤ pos b) ≤ℤ (p *ℤ pos s) → (m *ℤ pos d) ≤ℤ (q *ℤ pos s)
    → ((l +ℤ m) *ℤ pos (b * d)) ≤ℤ ((p *ℤ pos d +ℤ q *ℤ pos b) *ℤ pos s)
sum_le l m p q b d s h k =
    let one : ((l *ℤ pos b) *ℤ pos d) ≤ℤ ((p *ℤ pos s) *ℤ pos d) = times_le _ _ d h in
    let two : ((m *ℤ pos d) *ℤ pos b) ≤ℤ ((q *ℤ pos s) *ℤ pos b) = times_le _ _ b k in
    rw (add-*ℤ l m (pos (b * d)), add-*ℤ (p *ℤ pos d) (q *ℤ pos b) (pos s), times-times p d s, times-times q b s)
    (omega (arith, ints, one, two, times-times l b d, times-times p s d, times-times m d b, times-times q s b))

sum_ge : (l m p q : ℤ) (b d s : ℕ) → (p *ℤ pos s) ≤ℤ (l *ℤ pos b) → (q *ℤ pos s) ≤ℤ (m *ℤ pos d)
    → ((p *ℤ pos d +ℤ q *ℤ pos b) *ℤ pos s) ≤ℤ ((l +ℤ m) *ℤ pos (b * d))
sum_ge l m p q b d s h k =
    let one : ((p *ℤ pos s) *ℤ pos d) ≤ℤ ((l *ℤ pos b) *ℤ pos d) = times_le _ _ d h in
    let two : ((q *ℤ pos s) *ℤ pos b) ≤ℤ ((m *ℤ pos d) *ℤ pos b) = times_le _ _ b k in
    rw (add-*ℤ l m (pos (b * d)), add-*ℤ (p *ℤ pos d) (q *ℤ pos b) (pos s), times-times p d s, times-times q b s)
    (omega (arith, ints, one, two, times-times l b d, times-times p s d, times-times m d b, times-times q s b))

difference_le : (l m p q : ℤ) (b d s : ℕ) → (l *ℤ pos b) ≤ℤ (p *ℤ pos s) → (q *ℤ pos s) ≤ℤ (m *ℤ pos d)
    → ((l -ℤ m) *ℤ pos (b * d)) ≤ℤ ((p *ℤ pos d -ℤ q *ℤ pos b) *ℤ pos s)
difference_le l m p q b d s h k =
    let one : ((l *ℤ pos b) *ℤ pos d) ≤ℤ ((p *ℤ pos s) *ℤ pos d) = times_le _ _ d h in
    let two : ((q *ℤ pos s) *ℤ pos b) ≤ℤ ((m *ℤ pos d) *ℤ pos b) = times_le _ _ b k in
    rw (sub-*ℤ l m (pos (b * d)), sub-*ℤ (p *ℤ pos d) (q *ℤ pos b) (pos s), times-times p d s, times-times q b s)
    (omega (arith, ints, one, two, times-times l b d, times-times p s d, times-times m d b, times-times q s b))

difference_ge : (l m p q : ℤ) (b d s : ℕ) → (p *ℤ pos s) ≤ℤ (l *ℤ pos b) → (m *ℤ pos d) ≤ℤ (q *ℤ pos s)
    → ((p *ℤ pos d -ℤ q *ℤ pos b) *ℤ pos s) ≤ℤ ((l -ℤ m) *ℤ pos (b * d))
difference_ge l m p q b d s h k =
    let one : ((p *ℤ pos s) *ℤ pos d) ≤ℤ ((l *ℤ pos b) *ℤ pos d) = times_le _ _ d h in
    let two : ((m *ℤ pos d) *ℤ pos b) ≤ℤ ((q *ℤ pos s) *ℤ pos b) = times_le _ _ b k in
    rw (sub-*ℤ l m (pos (b * d)), sub-*ℤ (p *ℤ pos d) (q *ℤ pos b) (pos s), times-times p d s, times-times q b s)
    (omega (arith, ints, one, two, times-times l b d, times-times p s d, times-times m d b, times-times q s b))

0<mul : {m n : ℕ} → 0 < m → 0 < n → 0 < m * n
0<mul h k = mul-le-mul h k

pub Holds-sum : (F : ℕ) (x y r : Span F) (p q : Rational) → r ≡ sum F x y → Holds F x p → Holds F y q → Holds F r (sum_of p q)
Holds-sum F x y r p q e f g =
    subst (λ (z : Span F). Holds F z (sum_of p q)) (sym e) (record {
      some_parts = 0<mul f.some_parts g.some_parts;
      least = sum_le x.lo y.lo p.num q.num p.den q.den (2 ^ F) f.least g.least;
      greatest = sum_ge x.hi y.hi p.num q.num p.den q.den (2 ^ F) f.greatest g.greatest;
    })

pub Holds-difference : (F : ℕ) (x y r : Span F) (p q : Rational) → r ≡ difference F x y → Holds F x p → Holds F y q → Holds F r (difference_of p q)
Holds-difference F x y r p q e f g =
    subst (λ (z : Span F). Holds F z (difference_of p q)) (sym e) (record {
      some_parts = 0<mul f.some_parts g.some_parts;
      least = difference_le x.lo y.hi p.num q.num p.den q.den (2 ^ F) f.least g.greatest;
      greatest = difference_ge x.hi y.lo p.num q.num p.den q.den (2 ^ F) f.greatest g.least;
    })

-- where a number m times b d is at most the product of p s and q s, the floor of m / s is at most p q / b d in parts of s
floor_product : (m p q : ℤ) (n s : ℕ) → 0 < s → (m *ℤ pos n) ≤ℤ ((p *ℤ pos s) *ℤ (q *ℤ pos s))
    → (int_div_euclid m (pos s) *ℤ pos n) ≤ℤ ((p *ℤ q) *ℤ pos s)
floor_product m p q n s some h =
    let w : ℤ = int_div_euclid m (pos s) in
    let floor : ((w *ℤ pos s) *ℤ pos n) ≤ℤ (m *ℤ pos n) = times_le _ _ n (floor_at_most m s some) in
    let squares : (p *ℤ pos s) *ℤ (q *ℤ pos s) ≡ (p *ℤ q) *ℤ pos (s * s) = *ℤ-swap p (pos s) q (pos s) in
    cancel_le (w *ℤ pos n) ((p *ℤ q) *ℤ pos s) s some
    (rw (times-times w n s, times-times (p *ℤ q) s s) (omega (arith, ints, floor, h, squares, times-times w s n)))

ceiling_product : (m p q : ℤ) (n s : ℕ) → 0 < s → ((p *ℤ pos s) *ℤ (q *ℤ pos s)) ≤ℤ (m *ℤ pos n)
    → ((p *ℤ q) *ℤ pos s) ≤ℤ (ceiling m (pos s) *ℤ pos n)
ceiling_product m p q n s some h =
    let w : ℤ = ceiling m (pos s) in
    let ceil : (m *ℤ pos n) ≤ℤ ((w *ℤ pos s) *ℤ pos n) = times_le _ _ n (ceiling_at_least m s some) in
    let squares : (p *ℤ pos s) *ℤ (q *ℤ pos s) ≡ (p *ℤ q) *ℤ pos (s * s) = *ℤ-swap p (pos s) q (pos s) in
    cancel_le ((p *ℤ q) *ℤ pos s) (w *ℤ pos n) s some
    (rw (times-times w n s, times-times (p *ℤ q) s s) (omega (arith, ints, ceil, h, squares, times-times w s n)))

pub Holds-product : (F : ℕ) (x y r : Span F) (p q : Rational) → r ≡ product F x y → Holds F x p → Holds F y q → Holds F r (product_of p q)
Holds-product F x y r p q e f g =
    let a : ℤ = p.num *ℤ pos (2 ^ F) in
    let b : ℤ = q.num *ℤ pos (2 ^ F) in
    subst (λ (z : Span F). Holds F z (product_of p q)) (sym e) (record {
      some_parts = 0<mul f.some_parts g.some_parts;
      least = floor_product (least_product F x y) p.num q.num (p.den * q.den) (2 ^ F) (some_power F)
          (product_least (least_product F x y) x.lo x.hi y.lo y.hi a b p.den q.den
          (omega (arith, ints, clamps)) (omega (arith, ints, clamps)) (omega (arith, ints, clamps)) (omega (arith, ints, clamps))
          f.least f.greatest g.least g.greatest);
      greatest = ceiling_product (greatest_product F x y) p.num q.num (p.den * q.den) (2 ^ F) (some_power F)
          (product_greatest (greatest_product F x y) x.lo x.hi y.lo y.hi a b p.den q.den
          (omega (arith, ints, clamps)) (omega (arith, ints, clamps)) (omega (arith, ints, clamps)) (omega (arith, ints, clamps))
          f.least f.greatest g.least g.greatest);
    })

-- rounding: the ends of a span round to the ends of what its points round to
pub least_rounding : (F : ℕ) (x : Span F) (unit : ℕ) (r : Loose) (p : Rational) (v : ℤ)
    → 0 < unit → r ≡ rounded F x unit → Holds F x p → IsRounded p unit v → r.lo ≤ℤ v
least_rounding F x unit r p v some e h is =
    let n : ℕ = 2 * unit * 2 ^ F in
    let step : 1 * 1 ≤ unit * 2 ^ F = mul-le-mul some (some_power F) in
    let some_n : 0 < n = omega (arith, step) in
    let w : ℤ = int_div_euclid (x.lo *ℤ pos 2 +ℤ pos (unit * 2 ^ F)) (pos n) in
    let low : r.lo ≡ w = ap (λ (l : Loose). l.lo) e in
    let below : w ≤ℤ v = at_most_floor w v (x.lo *ℤ pos 2 +ℤ pos (unit * 2 ^ F)) n (floor_at_most _ n some_n)
    (greatest_end p.num x.lo v unit p.den (2 ^ F) (some_power F) h.least is.greatest) in
    omega (arith, ints, low, below)

pub greatest_rounding : (F : ℕ) (x : Span F) (unit : ℕ) (r : Loose) (p : Rational) (v : ℤ)
    → 0 < unit → r ≡ rounded F x unit → Holds F x p → IsRounded p unit v → v ≤ℤ r.hi
greatest_rounding F x unit r p v some e h is =
    let n : ℕ = 2 * unit * 2 ^ F in
    let step : 1 * 1 ≤ unit * 2 ^ F = mul-le-mul some (some_power F) in
    let some_n : 0 < n = omega (arith, step) in
    let w : ℤ = int_div_euclid (x.hi *ℤ pos 2 +ℤ pos (unit * 2 ^ F)) (pos n) in
    let high : r.hi ≡ w = ap (λ (l : Loose). l.hi) e in
    let above : v ≤ℤ w = at_most_floor v w (x.hi *ℤ pos 2 +ℤ pos (unit * 2 ^ F)) n
    (least_end p.num x.hi v unit p.den (2 ^ F) h.some_parts h.greatest is.least) (floor_above _ n some_n) in
    omega (arith, ints, high, above)
