-- The laws of enclosing numbers hold of fractions. They are lemmas, and stand here since an impl's laws cite `specs` alone.
use Rattle.std.proofs.Common.{ℕ, ℤ, pos, ◌≡◌, ◌*◌, ◌<◌, ◌+ℤ◌, ◌-ℤ◌, ◌*ℤ◌, ◌≤ℤ◌, arith, ap, ◌∙◌, refl, sym, subst}
use Rattle.std.proofs.lemmas.Int.{ints}
use Rattle.fix_span.specs.declared.frac.Frac.{Frac}
use Rattle.fix_span.specs.declared.loose.Loose.{Loose}
use Rattle.fix_span.specs.Frac.{IsNumber, whole_frac, sum, difference, product, half_up}
use Rattle.fix_span.specs.Rational.{Rational, whole_point, sum_of, difference_of, product_of}
use Rattle.fix_span.specs.Rounding.{IsRounded}
use Rattle.fix_span.specs.IntLaws.{add-*ℤ, sub-*ℤ, *ℤ-swap, *ℤ-regroup, positive-*ℤ}
use Rattle.fix_span.specs.RoundingLaws.{rounding_is}
use Rattle.std.proofs.Math.IntN.{*ℤ_comm}
use Rattle.std.proofs.Math.Nat.{mul-le-mul}

pub IsNumber-whole : (n : ℤ) (x : Frac) → x ≡ whole_frac n → IsNumber x (whole_point n)
IsNumber-whole n x e =
    subst (λ (y : Frac). IsNumber y (whole_point n)) (sym e) (record { positive = omega (arith, ints); some_parts = omega arith; same = refl })

0<mul : {m n : ℕ} → 0 < m → 0 < n → 0 < m * n
0<mul h k = mul-le-mul h k

-- numbers over a common denominator, where p / b is x / d and q / e is y / f
first_turned : (p x b d e f : ℤ) → p *ℤ d ≡ x *ℤ b → (p *ℤ e) *ℤ (d *ℤ f) ≡ (x *ℤ f) *ℤ (b *ℤ e)
first_turned p x b d e f h = *ℤ-swap p e d f ∙ ap (λ (z : ℤ). z *ℤ (e *ℤ f)) h ∙ *ℤ-regroup x b e f

second_turned : (q y b d e f : ℤ) → q *ℤ f ≡ y *ℤ e → (q *ℤ b) *ℤ (d *ℤ f) ≡ (y *ℤ d) *ℤ (b *ℤ e)
second_turned q y b d e f h =
    *ℤ-regroup q b d f ∙ ap (λ (z : ℤ). z *ℤ (b *ℤ d)) h ∙ *ℤ-regroup y e b d ∙ ap (λ (z : ℤ). (y *ℤ d) *ℤ z) (*ℤ_comm e b)

same_sum : (p x q y b d e f : ℤ) → p *ℤ d ≡ x *ℤ b → q *ℤ f ≡ y *ℤ e
    → (p *ℤ e +ℤ q *ℤ b) *ℤ (d *ℤ f) ≡ (x *ℤ f +ℤ y *ℤ d) *ℤ (b *ℤ e)
same_sum p x q y b d e f h k =
    rw (add-*ℤ (p *ℤ e) (q *ℤ b) (d *ℤ f), first_turned p x b d e f h, second_turned q y b d e f k)
    (sym (add-*ℤ (x *ℤ f) (y *ℤ d) (b *ℤ e)))

same_difference : (p x q y b d e f : ℤ) → p *ℤ d ≡ x *ℤ b → q *ℤ f ≡ y *ℤ e
    → (p *ℤ e -ℤ q *ℤ b) *ℤ (d *ℤ f) ≡ (x *ℤ f -ℤ y *ℤ d) *ℤ (b *ℤ e)
same_difference p x q y b d e f h k =
    rw (sub-*ℤ (p *ℤ e) (q *ℤ b) (d *ℤ f), first_turned p x b d e f h, second_turned q y b d e f k)
    (sym (sub-*ℤ (x *ℤ f) (y *ℤ d) (b *ℤ e)))

same_product : (p x q y b d e f : ℤ) → p *ℤ d ≡ x *ℤ b → q *ℤ f ≡ y *ℤ e → (p *ℤ q) *ℤ (d *ℤ f) ≡ (x *ℤ y) *ℤ (b *ℤ e)
same_product p x q y b d e f h k =
    *ℤ-swap p q d f ∙ ap (λ (z : ℤ). z *ℤ (q *ℤ f)) h ∙ ap (λ (z : ℤ). (x *ℤ b) *ℤ z) k ∙ *ℤ-swap x b y e

pub IsNumber-sum : (x y r : Frac) (p q : Rational) → r ≡ sum x y → IsNumber x p → IsNumber y q → IsNumber r (sum_of p q)
IsNumber-sum x y r p q e f g =
    subst (λ (z : Frac). IsNumber z (sum_of p q)) (sym e) (record {
      positive = positive-*ℤ x.den y.den f.positive g.positive;
      some_parts = 0<mul f.some_parts g.some_parts;
      same = same_sum p.num x.num q.num y.num (pos p.den) x.den (pos q.den) y.den f.same g.same;
    })

pub IsNumber-difference : (x y r : Frac) (p q : Rational) → r ≡ difference x y → IsNumber x p → IsNumber y q → IsNumber r (difference_of p q)
IsNumber-difference x y r p q e f g =
    subst (λ (z : Frac). IsNumber z (difference_of p q)) (sym e) (record {
      positive = positive-*ℤ x.den y.den f.positive g.positive;
      some_parts = 0<mul f.some_parts g.some_parts;
      same = same_difference p.num x.num q.num y.num (pos p.den) x.den (pos q.den) y.den f.same g.same;
    })

pub IsNumber-product : (x y r : Frac) (p q : Rational) → r ≡ product x y → IsNumber x p → IsNumber y q → IsNumber r (product_of p q)
IsNumber-product x y r p q e f g =
    subst (λ (z : Frac). IsNumber z (product_of p q)) (sym e) (record {
      positive = positive-*ℤ x.den y.den f.positive g.positive;
      some_parts = 0<mul f.some_parts g.some_parts;
      same = same_product p.num x.num q.num y.num (pos p.den) x.den (pos q.den) y.den f.same g.same;
    })

-- a number rounds to the half up of its fraction
half_up-rounded : (x : Frac) (unit : ℕ) (p : Rational) (v : ℤ) → 0 < unit → IsNumber x p → IsRounded p unit v → half_up x unit ≡ v
half_up-rounded x unit p v some h rounded =
    rounding_is p.num x.num v x.den unit p.den some h.some_parts h.positive h.same rounded.least rounded.greatest

pub least_rounding : (x : Frac) (unit : ℕ) (r : Loose) (p : Rational) (v : ℤ)
    → 0 < unit → r ≡ record { lo = half_up x unit; hi = half_up x unit } → IsNumber x p → IsRounded p unit v → r.lo ≤ℤ v
least_rounding x unit r p v some e h rounded =
    let is : r.lo ≡ v = ap (λ (l : Loose). l.lo) e ∙ half_up-rounded x unit p v some h rounded in omega (arith, ints)

pub greatest_rounding : (x : Frac) (unit : ℕ) (r : Loose) (p : Rational) (v : ℤ)
    → 0 < unit → r ≡ record { lo = half_up x unit; hi = half_up x unit } → IsNumber x p → IsRounded p unit v → v ≤ℤ r.hi
greatest_rounding x unit r p v some e h rounded =
    let is : r.hi ≡ v = ap (λ (l : Loose). l.hi) e ∙ half_up-rounded x unit p v some h rounded in omega (arith, ints)
