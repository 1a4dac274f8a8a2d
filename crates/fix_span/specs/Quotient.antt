-- One fraction over another, and that it is the quotient of the numbers that they are.
use Rattle.std.proofs.Common.{ℕ, zero, suc, ℤ, pos, negsuc, ◌≡◌, ◌*◌, ◌<◌, ◌≤◌, ◌*ℤ◌, ◌<ℤ◌, nat_abs, arith, ap, ◌∙◌, sym, subst}
use Rattle.std.proofs.lemmas.Int.{ints}
use Rattle.std.proofs.Math.IntN.{*ℤ_comm}
use Rattle.std.proofs.Math.Nat.{mul-le-mul}
use Rattle.fix_span.specs.declared.frac.Frac.{Frac}
use Rattle.fix_span.specs.Frac.{IsNumber}
use Rattle.fix_span.specs.IntLaws.{*ℤ-regroup, *ℤ-swap, positive-*ℤ}
use Rattle.fix_span.specs.Rational.{Rational}

-- the quotient of two fractions, of which the second is positive
abbrev pub quotient : Frac → Frac → Frac
quotient x y = record { num = x.num *ℤ y.den; den = x.den *ℤ y.num }

-- the quotient of two numbers, of which the second is positive
abbrev pub quotient_of : Rational → Rational → Rational
quotient_of p q = record { num = p.num *ℤ pos q.den; den = p.den * nat_abs q.num }

-- a number whose fraction is positive is so
numerator-positive : (q y d : ℤ) (n : ℕ) → pos 0 <ℤ d → 0 < n → pos 0 <ℤ y → q *ℤ d ≡ y *ℤ pos n → pos 0 <ℤ q
numerator-positive (pos (suc q)) y d n positive some above same = omega (arith, ints)
numerator-positive (pos zero) y d n positive some above same =
    let more = positive-*ℤ y (pos n) above (omega (arith, ints)) in absurd (omega (arith, ints))
numerator-positive (negsuc q) y (pos d) n positive some above same =
    let more = positive-*ℤ y (pos n) above (omega (arith, ints)) in absurd (omega (arith, ints))
numerator-positive (negsuc q) y (negsuc d) n positive some above same = absurd (omega (arith, ints))

-- the products of a quotient, from those of the two numbers
same_quotient :
    (p x q y xd yd : ℤ) (b n : ℕ) → p *ℤ xd ≡ x *ℤ pos b → q *ℤ yd ≡ y *ℤ pos n
    → (p *ℤ pos n) *ℤ (xd *ℤ y) ≡ (x *ℤ yd) *ℤ (pos b *ℤ q)
same_quotient p x q y xd yd b n e f =
    *ℤ-swap p (pos n) xd y
    ∙ ap (λ (z : ℤ). z *ℤ (pos n *ℤ y)) e
    ∙ ap (λ (z : ℤ). (x *ℤ pos b) *ℤ z) (*ℤ_comm (pos n) y ∙ sym f)
    ∙ *ℤ-regroup x (pos b) q yd

positive_times : (b : ℕ) (q : ℤ) → pos 0 <ℤ q → pos b *ℤ q ≡ pos (b * nat_abs q)
positive_times b (pos q) above = omega (arith, ints)
positive_times b (negsuc q) above = absurd (omega (arith, ints))

parts_times : (b : ℕ) (q : ℤ) → 0 < b → pos 0 <ℤ q → 0 < b * nat_abs q
parts_times b (pos q) some above =
    let one : 1 ≤ q = omega (arith, ints) in
    let more : 1 * 1 ≤ b * q = mul-le-mul some one in omega (arith, more)
parts_times b (negsuc q) some above = absurd (omega (arith, ints))

pub IsNumber-quotient : (x y r : Frac) (p q : Rational) → pos 0 <ℤ y.num → r ≡ quotient x y → IsNumber x p → IsNumber y q → IsNumber r (quotient_of p q)
IsNumber-quotient x y r p q above e f g =
    let some = numerator-positive q.num y.num y.den q.den g.positive g.some_parts above g.same in
    subst (λ (z : Frac). IsNumber z (quotient_of p q)) (sym e) (record {
      positive = positive-*ℤ x.den y.num f.positive above;
      some_parts = parts_times p.den q.num f.some_parts some;
      same = same_quotient p.num x.num q.num y.num x.den y.den p.den q.den f.same g.same
          ∙ ap (λ (z : ℤ). (x.num *ℤ y.den) *ℤ z) (positive_times p.den q.num some);
    })
