-- What is made of a fraction, a quotient or a change of scale holds the points that it should.
use Rattle.std.proofs.Common.{ℕ, ℤ, zero, suc, pos, negsuc, ◌≡◌, ◌*◌, ◌^◌, ◌<◌, ◌*ℤ◌, ◌≤ℤ◌, ◌<ℤ◌, arith, ap, sym, subst}
use Rattle.std.specs.Prelude.{nat_abs}
use Rattle.std.proofs.lemmas.Int.{ints, clamps}
use Rattle.std.specs.Int.{int_div_euclid}
use Rattle.std.proofs.Math.IntN.{*ℤ_comm}
use Rattle.std.proofs.Math.Nat.{mul-le-mul}
use Rattle.fix_span.specs.declared.frac.Frac.{Frac}
use Rattle.fix_span.specs.declared.span.Span.{Span}
use Rattle.fix_span.specs.Frac.{IsNumber}
use Rattle.fix_span.specs.Rational.{Rational}
use Rattle.fix_span.specs.Span.{Holds, ceiling, frac_span, quotient, quotient_down, quotient_of, quotient_up, widened}
use Rattle.fix_span.specs.CornerLaws.{ceiling_at_least, end_greatest, end_least, some_power}
use Rattle.fix_span.specs.IntLaws.{cancel_le, positive-*ℤ, times-times, times_le}
use Rattle.fix_span.specs.RoundingLaws.{floor_at_most}

-- p / b is n / d: a number w with w / s at most n / d has w / s at most p / b
below_point : (n p w : ℤ) (b d s : ℕ) → 0 < d → p *ℤ pos d ≡ n *ℤ pos b → (w *ℤ pos d) ≤ℤ (n *ℤ pos s) → (w *ℤ pos b) ≤ℤ (p *ℤ pos s)
below_point n p w b d s some e h =
    let one : ((w *ℤ pos d) *ℤ pos b) ≤ℤ ((n *ℤ pos s) *ℤ pos b) = times_le _ _ b h in
    let same : (p *ℤ pos d) *ℤ pos s ≡ (n *ℤ pos b) *ℤ pos s = ap (λ (z : ℤ). z *ℤ pos s) e in
    cancel_le (w *ℤ pos b) (p *ℤ pos s) d some
    (rw (times-times w b d, times-times p s d)
    (omega (arith, ints, one, same, times-times w d b, times-times n s b, times-times p d s, times-times n b s)))

above_point : (n p w : ℤ) (b d s : ℕ) → 0 < d → p *ℤ pos d ≡ n *ℤ pos b → (n *ℤ pos s) ≤ℤ (w *ℤ pos d) → (p *ℤ pos s) ≤ℤ (w *ℤ pos b)
above_point n p w b d s some e h =
    let one : ((n *ℤ pos s) *ℤ pos b) ≤ℤ ((w *ℤ pos d) *ℤ pos b) = times_le _ _ b h in
    let same : (p *ℤ pos d) *ℤ pos s ≡ (n *ℤ pos b) *ℤ pos s = ap (λ (z : ℤ). z *ℤ pos s) e in
    cancel_le (p *ℤ pos s) (w *ℤ pos b) d some
    (rw (times-times w b d, times-times p s d)
    (omega (arith, ints, one, same, times-times w d b, times-times n s b, times-times p d s, times-times n b s)))

pub Holds-frac : (F : ℕ) (x : Frac) (r : Span F) (p : Rational) → r ≡ frac_span F x → IsNumber x p → Holds F r p
Holds-frac F x r p e h =
    subst (λ (z : Span F). Holds F z p) (sym e) (record {
      some_parts = h.some_parts;
      least = low x.den h.positive h.same;
      greatest = high x.den h.positive h.same;
    }) where
      low : (d : ℤ) → pos 0 <ℤ d → p.num *ℤ d ≡ x.num *ℤ pos p.den
          → (int_div_euclid (x.num *ℤ pos (2 ^ F)) d *ℤ pos p.den) ≤ℤ (p.num *ℤ pos (2 ^ F))
      low (pos d) positive same =
          let some : 0 < d = omega (arith, ints) in
          below_point x.num p.num _ p.den d (2 ^ F) some same (floor_at_most (x.num *ℤ pos (2 ^ F)) d some)
      low (negsuc d) positive same = absurd (omega (arith, ints))

      high : (d : ℤ) → pos 0 <ℤ d → p.num *ℤ d ≡ x.num *ℤ pos p.den
          → (p.num *ℤ pos (2 ^ F)) ≤ℤ (ceiling (x.num *ℤ pos (2 ^ F)) d *ℤ pos p.den)
      high (pos d) positive same =
          let some : 0 < d = omega (arith, ints) in
          above_point x.num p.num _ p.den d (2 ^ F) some same (ceiling_at_least (x.num *ℤ pos (2 ^ F)) d some)
      high (negsuc d) positive same = absurd (omega (arith, ints))

-- in another scale
scaled_below : (l w p : ℤ) (b s t : ℕ) → 0 < s → (w *ℤ pos s) ≤ℤ (l *ℤ pos t) → (l *ℤ pos b) ≤ℤ (p *ℤ pos s) → (w *ℤ pos b) ≤ℤ (p *ℤ pos t)
scaled_below l w p b s t some h k =
    let one : ((w *ℤ pos s) *ℤ pos b) ≤ℤ ((l *ℤ pos t) *ℤ pos b) = times_le _ _ b h in
    let two : ((l *ℤ pos b) *ℤ pos t) ≤ℤ ((p *ℤ pos s) *ℤ pos t) = times_le _ _ t k in
    cancel_le (w *ℤ pos b) (p *ℤ pos t) s some
    (rw (times-times w b s, times-times p t s)
    (omega (arith, ints, one, two, times-times w s b, times-times l t b, times-times l b t, times-times p s t)))

scaled_above : (l w p : ℤ) (b s t : ℕ) → 0 < s → (l *ℤ pos t) ≤ℤ (w *ℤ pos s) → (p *ℤ pos s) ≤ℤ (l *ℤ pos b) → (p *ℤ pos t) ≤ℤ (w *ℤ pos b)
scaled_above l w p b s t some h k =
    let one : ((l *ℤ pos t) *ℤ pos b) ≤ℤ ((w *ℤ pos s) *ℤ pos b) = times_le _ _ b h in
    let two : ((p *ℤ pos s) *ℤ pos t) ≤ℤ ((l *ℤ pos b) *ℤ pos t) = times_le _ _ t k in
    cancel_le (p *ℤ pos t) (w *ℤ pos b) s some
    (rw (times-times w b s, times-times p t s)
    (omega (arith, ints, one, two, times-times w s b, times-times l t b, times-times l b t, times-times p s t)))

pub Holds-widened : (F G : ℕ) (x : Span F) (r : Span G) (p : Rational) → r ≡ widened F G x → Holds F x p → Holds G r p
Holds-widened F G x r p e h =
    subst (λ (z : Span G). Holds G z p) (sym e) (record {
      some_parts = h.some_parts;
      least = scaled_below x.lo _ p.num p.den (2 ^ F) (2 ^ G) (some_power F) (floor_at_most (x.lo *ℤ pos (2 ^ G)) (2 ^ F) (some_power F)) h.least;
      greatest = scaled_above x.hi _ p.num p.den (2 ^ F) (2 ^ G) (some_power F) (ceiling_at_least (x.hi *ℤ pos (2 ^ G)) (2 ^ F) (some_power F)) h.greatest;
    })

-- a number that is at most a floor, or at least a ceiling, times the divisor
at_most_quotient : (w a c : ℤ) → pos 0 <ℤ c → w ≤ℤ int_div_euclid a c → (w *ℤ c) ≤ℤ a
at_most_quotient w a (pos c) positive h =
    let some : 0 < c = omega (arith, ints) in
    let one : (w *ℤ pos c) ≤ℤ (int_div_euclid a (pos c) *ℤ pos c) = times_le _ _ c h in
    omega (arith, ints, one, floor_at_most a c some)
at_most_quotient w a (negsuc c) positive h = absurd (omega (arith, ints))

at_least_quotient : (w a c : ℤ) → pos 0 <ℤ c → ceiling a c ≤ℤ w → a ≤ℤ (w *ℤ c)
at_least_quotient w a (pos c) positive h =
    let some : 0 < c = omega (arith, ints) in
    let one : (ceiling a (pos c) *ℤ pos c) ≤ℤ (w *ℤ pos c) = times_le _ _ c h in
    omega (arith, ints, one, ceiling_at_least a c some)
at_least_quotient w a (negsuc c) positive h = absurd (omega (arith, ints))

-- p / b and n / d, the first at least l / s: a number whose product with n s is at most l s d
quotient_low : (w p l : ℤ) (n b d s : ℕ) → 0 < s → (pos (n * s) *ℤ w) ≤ℤ ((l *ℤ pos s) *ℤ pos d) → (l *ℤ pos b) ≤ℤ (p *ℤ pos s)
    → (w *ℤ pos (b * n)) ≤ℤ ((p *ℤ pos d) *ℤ pos s)
quotient_low w p l n b d s some h k =
    let turn : pos (n * s) *ℤ w ≡ w *ℤ pos (n * s) = *ℤ_comm (pos (n * s)) w in
    let all : (w *ℤ pos (n * s)) ≤ℤ (l *ℤ pos (s * d)) = omega (arith, ints, h, turn, times-times l s d) in
    let one : ((w *ℤ pos (n * s)) *ℤ pos b) ≤ℤ ((l *ℤ pos (s * d)) *ℤ pos b) = times_le _ _ b all in
    let two : ((l *ℤ pos b) *ℤ pos (s * d)) ≤ℤ ((p *ℤ pos s) *ℤ pos (s * d)) = times_le _ _ (s * d) k in
    cancel_le (w *ℤ pos (b * n)) ((p *ℤ pos d) *ℤ pos s) s some
    (rw (times-times w (b * n) s, times-times p d s, times-times p (d * s) s)
    (omega (arith, ints, one, two, times-times w (n * s) b, times-times l (s * d) b, times-times l b (s * d), times-times p s (s * d))))

quotient_high : (w p l : ℤ) (n b d s : ℕ) → 0 < s → ((l *ℤ pos s) *ℤ pos d) ≤ℤ (pos (n * s) *ℤ w) → (p *ℤ pos s) ≤ℤ (l *ℤ pos b)
    → ((p *ℤ pos d) *ℤ pos s) ≤ℤ (w *ℤ pos (b * n))
quotient_high w p l n b d s some h k =
    let turn : pos (n * s) *ℤ w ≡ w *ℤ pos (n * s) = *ℤ_comm (pos (n * s)) w in
    let all : (l *ℤ pos (s * d)) ≤ℤ (w *ℤ pos (n * s)) = omega (arith, ints, h, turn, times-times l s d) in
    let one : ((l *ℤ pos (s * d)) *ℤ pos b) ≤ℤ ((w *ℤ pos (n * s)) *ℤ pos b) = times_le _ _ b all in
    let two : ((p *ℤ pos s) *ℤ pos (s * d)) ≤ℤ ((l *ℤ pos b) *ℤ pos (s * d)) = times_le _ _ (s * d) k in
    cancel_le ((p *ℤ pos d) *ℤ pos s) (w *ℤ pos (b * n)) s some
    (rw (times-times w (b * n) s, times-times p d s, times-times p (d * s) s)
    (omega (arith, ints, one, two, times-times w (n * s) b, times-times l (s * d) b, times-times l b (s * d), times-times p s (s * d))))

-- a number above a positive one, over parts, isn't negative
above_positive : (l z : ℤ) (d s : ℕ) → 0 < d → pos 0 <ℤ l → (l *ℤ pos d) ≤ℤ (z *ℤ pos s) → pos 0 <ℤ z
above_positive l (pos zero) d s some positive h =
    let more : pos 0 <ℤ (l *ℤ pos d) = positive-*ℤ l (pos d) positive (omega (arith, ints, some)) in
    absurd (omega (arith, ints, more, h))
above_positive l (pos (suc n)) d s some positive h = omega (arith, ints)
above_positive l (negsuc n) d s some positive h =
    let more : pos 0 <ℤ (l *ℤ pos d) = positive-*ℤ l (pos d) positive (omega (arith, ints, some)) in
    let less : (negsuc n *ℤ pos s) ≤ℤ (pos 0 *ℤ pos s) = times_le (negsuc n) (pos 0) s (omega (arith, ints)) in
    absurd (omega (arith, ints, more, h, less))

0<mul : {m n : ℕ} → 0 < m → 0 < n → 0 < m * n
0<mul h k = mul-le-mul h k

-- a number below the quotients of a lower end by two ends, and one above those of an upper end
pub record IsQuotient (F : ℕ) (x y r : Span F) : Type 0 where
  pub low_low : r.lo ≤ℤ quotient_down F x.lo y.lo
  pub low_high : r.lo ≤ℤ quotient_down F x.lo y.hi
  pub high_low : quotient_up F x.hi y.lo ≤ℤ r.hi
  pub high_high : quotient_up F x.hi y.hi ≤ℤ r.hi

quotient-holds : (F : ℕ) (x y r : Span F) (p : Rational) (z : ℤ) (d : ℕ) → pos 0 <ℤ z → pos 0 <ℤ y.lo → y.lo ≤ℤ y.hi → IsQuotient F x y r
    → Holds F x p → Holds F y (record { num = z; den = d }) → Holds F r (record { num = p.num *ℤ pos d; den = p.den * nat_abs z })
quotient-holds F x y r p (pos n) d some_z positive ordered is f g =
    let upper : pos 0 <ℤ y.hi = omega (arith, ints, positive, ordered) in
    let some : 0 < n = omega (arith, ints) in
    record {
      some_parts = 0<mul f.some_parts some;
      least = quotient_low r.lo p.num x.lo n p.den d (2 ^ F) (some_power F)
          (end_greatest (x.lo *ℤ pos (2 ^ F)) r.lo y.lo y.hi (pos (n * 2 ^ F)) d
          (at_most_quotient r.lo _ y.lo positive is.low_low) (at_most_quotient r.lo _ y.hi upper is.low_high) g.least g.greatest) f.least;
      greatest = quotient_high r.hi p.num x.hi n p.den d (2 ^ F) (some_power F)
          (end_least (x.hi *ℤ pos (2 ^ F)) r.hi y.lo y.hi (pos (n * 2 ^ F)) d
          (at_least_quotient r.hi _ y.lo positive is.high_low) (at_least_quotient r.hi _ y.hi upper is.high_high) g.least g.greatest) f.greatest;
    }
quotient-holds F x y r p (negsuc n) d some_z positive ordered is f g = absurd (omega (arith, ints))

pub Holds-quotient : (F : ℕ) (x y r : Span F) (p q : Rational) → r ≡ quotient F x y → pos 0 <ℤ y.lo → y.lo ≤ℤ y.hi → Holds F x p → Holds F y q
    → Holds F r (quotient_of p q)
Holds-quotient F x y r p q e positive ordered f g =
    subst (λ (z : Span F). Holds F z (quotient_of p q)) (sym e)
    (quotient-holds F x y (quotient F x y) p q.num q.den (above_positive y.lo q.num q.den (2 ^ F) g.some_parts positive g.least) positive ordered
    (record {
      low_low = omega (arith, ints, clamps);
      low_high = omega (arith, ints, clamps);
      high_low = omega (arith, ints, clamps);
      high_high = omega (arith, ints, clamps);
    }) f g)
