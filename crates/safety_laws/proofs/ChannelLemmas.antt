-- A channel between two colours, where the easing is no curve: the premultiplied channel over the alpha, by whole numbers alone.
use Rattle.std.proofs.Common.{◌≡◌, ◌↔◌, ℕ, zero, suc, ◌+◌, ◌*◌, ◌≤◌, ℤ, pos, negsuc, neg_ℤ, ◌+ℤ◌, ◌-ℤ◌, ◌*ℤ◌, ◌≤ℤ◌, ◌<ℤ◌, int_le, false, arith, refl, sym, subst}
use Rattle.std.specs.Int.{int_div_euclid}
use Rattle.std.proofs.lemmas.Int.{ints, clamps}
use Rattle.page_model.specs.declared.easing.Easing.{Easing}
use Rattle.page_model.specs.declared.easing.Easing.TheVariants.{Linear, Steps, Cubic}
use Rattle.page_model.specs.Curve.{FractionReaches, eased, stepped}
use Rattle.page_model.specs.Fraction.{Fraction}
use Rattle.page_model.specs.Slot.{Shade, IsChannelValue, IsGreatestLevel, between, channel_value, due, fading, gain, held_level, over_alpha, premultiplied}
use Rattle.safety_laws.specs.ComputedLaws.{ChannelIsComputed, IsNoCurve}
use Rattle.safety_laws.proofs.RoundingLemmas.{div-greatest}
use Rattle.state_laws.proofs.UniqueLemmas.{channel-unique}

-- a difference times a number
pub apart-times : (m n c : ℕ) → (pos m -ℤ pos n) *ℤ pos c ≡ pos (m * c) -ℤ pos (n * c)
apart-times m n c =
    let d : ℤ = pos m -ℤ pos n in
    product d m n c (omega (arith, ints))
  where
    product : (d : ℤ) (m n c : ℕ) → d ≡ pos m -ℤ pos n → d *ℤ pos c ≡ pos (m * c) -ℤ pos (n * c)
    product (pos k) m n c e = positive k m n c (omega (arith, ints))
      where
        positive : (k m n c : ℕ) → m ≡ n + k → pos (k * c) ≡ pos (m * c) -ℤ pos (n * c)
        positive k m n c e = rw e (omega (arith, ints))
    product (negsuc k) m n c e = negative k m n c (omega (arith, ints))
      where
        negative : (k m n c : ℕ) → n ≡ m + suc k → negsuc k *ℤ pos c ≡ pos (m * c) -ℤ pos (n * c)
        negative k m n c e = rw e (omega (arith, ints))

-- no alpha is left where what is left isn't above 0
gone-between : (x : Fraction) (from to : Shade) → FractionReaches x (fading from to) (pos from.alpha) ↔ (between from.alpha to.alpha x ≤ℤ pos 0)
gone-between x from to =
    let e = apart-times from.alpha to.alpha x.num in (
      λ h. there from.alpha to.alpha x.num x.den (rw e at h),
      λ h. rw e (back from.alpha to.alpha x.num x.den h),
    )
  where
    there : (a b n d : ℕ) → (pos a *ℤ pos d) ≤ℤ (pos (a * n) -ℤ pos (b * n)) → (pos (a * d + b * n) -ℤ pos (a * n)) ≤ℤ pos 0
    there a b n d h = omega (arith, ints)

    back : (a b n d : ℕ) → (pos (a * d + b * n) -ℤ pos (a * n)) ≤ℤ pos 0 → (pos a *ℤ pos d) ≤ℤ (pos (a * n) -ℤ pos (b * n))
    back a b n d h = omega (arith, ints)

-- twice a level above 0 less 1, as a natural number
odd : (n : ℕ) → pos 2 *ℤ pos (suc n) -ℤ pos 1 ≡ pos (2 * n + 1)
odd n = omega (arith, ints)

-- the way is at a level or above it exactly where the premultiplied channel is so many times the alpha
level-between :
    (x : Fraction) (from to : Shade) (n : ℕ)
    → FractionReaches x (gain from to (pos (suc n))) (due from (pos (suc n)))
    ↔ ((pos (suc n) *ℤ (pos 2 *ℤ between from.alpha to.alpha x))
    ≤ℤ (pos 2 *ℤ between (premultiplied from) (premultiplied to) x +ℤ between from.alpha to.alpha x))
level-between x from to n =
    let k : ℕ = 2 * n + 1 in
    let e = odd n in
    let p : ℕ = premultiplied from in
    let q : ℕ = premultiplied to in
    let first = apart-times (k * from.alpha) (2 * p) x.den in
    let second = apart-times (2 * q + k * from.alpha) (2 * p + k * to.alpha) x.num in (
      λ h. there p q from.alpha to.alpha n x.num x.den
          (subst (λ (z : ℤ). (z ≤ℤ (pos ((2 * q + k * from.alpha) * x.num) -ℤ pos ((2 * p + k * to.alpha) * x.num)))) first
          (subst (λ (z : ℤ). (((pos (k * from.alpha) -ℤ pos (2 * p)) *ℤ pos x.den) ≤ℤ z)) second
          (subst (λ (z : ℤ). (((pos (k * from.alpha) -ℤ pos (2 * p)) *ℤ pos x.den) ≤ℤ (z *ℤ pos x.num))) (gain-is p q from.alpha to.alpha k)
          (subst (λ (z : ℤ). ((z *ℤ pos x.den) ≤ℤ (((pos (2 * q) -ℤ pos k *ℤ pos to.alpha) -ℤ (pos (2 * p) -ℤ pos k *ℤ pos from.alpha)) *ℤ pos x.num))) (due-is p from.alpha k)
          (rw e at h))))),
      λ h. rw e
          (subst (λ (z : ℤ). ((z *ℤ pos x.den) ≤ℤ (((pos (2 * q) -ℤ pos k *ℤ pos to.alpha) -ℤ (pos (2 * p) -ℤ pos k *ℤ pos from.alpha)) *ℤ pos x.num))) (sym (due-is p from.alpha k))
          (subst (λ (z : ℤ). (((pos (k * from.alpha) -ℤ pos (2 * p)) *ℤ pos x.den) ≤ℤ (z *ℤ pos x.num))) (sym (gain-is p q from.alpha to.alpha k))
          (subst (λ (z : ℤ). (((pos (k * from.alpha) -ℤ pos (2 * p)) *ℤ pos x.den) ≤ℤ z)) (sym second)
          (subst (λ (z : ℤ). (z ≤ℤ (pos ((2 * q + k * from.alpha) * x.num) -ℤ pos ((2 * p + k * to.alpha) * x.num)))) (sym first)
          (back p q from.alpha to.alpha n x.num x.den h))))),
    )
  where
    due-is : (p a k : ℕ) → neg_ℤ (pos (2 * p) -ℤ pos k *ℤ pos a) ≡ pos (k * a) -ℤ pos (2 * p)
    due-is p a k = omega (arith, ints)

    gain-is : (p q a b k : ℕ) → (pos (2 * q) -ℤ pos k *ℤ pos b) -ℤ (pos (2 * p) -ℤ pos k *ℤ pos a) ≡ pos (2 * q + k * a) -ℤ pos (2 * p + k * b)
    gain-is p q a b k = omega (arith, ints)

    twice-times : (n c d : ℕ) → pos (suc n) *ℤ (pos 2 *ℤ (pos c -ℤ pos d)) ≡ pos (2 * (n + 1) * c) -ℤ pos (2 * (n + 1) * d)
    twice-times n c d =
        let e = apart-times (2 * c) (2 * d) (n + 1) in
        let f : pos (suc n) *ℤ (pos 2 *ℤ (pos c -ℤ pos d)) ≡ (pos (2 * c) -ℤ pos (2 * d)) *ℤ pos (n + 1) = turned n (pos 2 *ℤ (pos c -ℤ pos d)) (pos (2 * c) -ℤ pos (2 * d)) (omega (arith, ints)) in
        omega (arith, ints)
      where
        turned : (n : ℕ) (z w : ℤ) → z ≡ w → pos (suc n) *ℤ z ≡ w *ℤ pos (n + 1)
        turned n z w e = rw e (omega (arith, ints))

    by_parts :
        (n c d e f : ℕ) → (2 * (n + 1) * c + 2 * f + d) ≤ (2 * e + c + 2 * (n + 1) * d)
        → (pos (suc n) *ℤ (pos 2 *ℤ (pos c -ℤ pos d))) ≤ℤ (pos 2 *ℤ (pos e -ℤ pos f) +ℤ (pos c -ℤ pos d))
    by_parts n c d e f h = rw (twice-times n c d) (omega (arith, ints))

    in_parts :
        (n c d e f : ℕ) → (pos (suc n) *ℤ (pos 2 *ℤ (pos c -ℤ pos d))) ≤ℤ (pos 2 *ℤ (pos e -ℤ pos f) +ℤ (pos c -ℤ pos d))
        → (2 * (n + 1) * c + 2 * f + d) ≤ (2 * e + c + 2 * (n + 1) * d)
    in_parts n c d e f h = let k = rw (twice-times n c d) at h in omega (arith, ints)

    there :
        (p q a b n num den : ℕ)
        → (pos ((2 * n + 1) * a * den) -ℤ pos (2 * p * den)) ≤ℤ (pos ((2 * q + (2 * n + 1) * a) * num) -ℤ pos ((2 * p + (2 * n + 1) * b) * num))
        → (pos (suc n) *ℤ (pos 2 *ℤ (pos (a * den + b * num) -ℤ pos (a * num))))
        ≤ℤ (pos 2 *ℤ (pos (p * den + q * num) -ℤ pos (p * num)) +ℤ (pos (a * den + b * num) -ℤ pos (a * num)))
    there p q a b n num den h = by_parts n (a * den + b * num) (a * num) (p * den + q * num) (p * num) (omega (arith, ints))

    back :
        (p q a b n num den : ℕ)
        → (pos (suc n) *ℤ (pos 2 *ℤ (pos (a * den + b * num) -ℤ pos (a * num))))
        ≤ℤ (pos 2 *ℤ (pos (p * den + q * num) -ℤ pos (p * num)) +ℤ (pos (a * den + b * num) -ℤ pos (a * num)))
        → (pos ((2 * n + 1) * a * den) -ℤ pos (2 * p * den)) ≤ℤ (pos ((2 * q + (2 * n + 1) * a) * num) -ℤ pos ((2 * p + (2 * n + 1) * b) * num))
    back p q a b n num den h = let k = in_parts n (a * den + b * num) (a * num) (p * den + q * num) (p * num) h in omega (arith, ints)

-- of levels that hold up to a number the greatest is that number, held in the range
held-level : (Holds : ℤ → Type 0) (r : ℤ) → ((n : ℕ) → Holds (pos (suc n)) ↔ (pos (suc n) ≤ℤ r)) → IsGreatestLevel Holds (held_level r)
held-level Holds r same = record {
  at_least = omega (arith, ints, clamps);
  at_most = omega (arith, ints, clamps);
  reached = λ some. above Holds same (held_level r) some (within r some);
  greatest = λ w more most holds. past r w more most (below Holds same w (positive r w more) holds);
} where
  within : (r : ℤ) → pos 0 <ℤ held_level r → held_level r ≤ℤ r
  within r some = omega (arith, ints, clamps)

  positive : (r w : ℤ) → held_level r <ℤ w → pos 0 <ℤ w
  positive r w more = omega (arith, ints, clamps)

  past : (r w : ℤ) → held_level r <ℤ w → w ≤ℤ pos 255 → w ≤ℤ r → ⊥
  past r w more most within = omega (arith, ints, clamps)

  above : (Holds : ℤ → Type 0) → ((n : ℕ) → Holds (pos (suc n)) ↔ (pos (suc n) ≤ℤ r)) → (w : ℤ) → pos 0 <ℤ w → w ≤ℤ r → Holds w
  above Holds same (pos zero) some within = absurd (omega (arith, ints))
  above Holds same (pos (suc n)) some within = (same n).1 within
  above Holds same (negsuc n) some within = absurd (omega (arith, ints))

  below : (Holds : ℤ → Type 0) → ((n : ℕ) → Holds (pos (suc n)) ↔ (pos (suc n) ≤ℤ r)) → (w : ℤ) → pos 0 <ℤ w → Holds w → w ≤ℤ r
  below Holds same (pos zero) some holds = absurd (omega (arith, ints))
  below Holds same (pos (suc n)) some holds = (same n).0 holds
  below Holds same (negsuc n) some holds = absurd (omega (arith, ints))

-- gone where there is no alpha, and else the quotient
pub record IsOverAlpha (Gone : Type 0) (Holds : ℤ → Type 0) (v : ℤ) : Type 0 where
  pub gone : Gone → v ≡ pos 0
  pub left : (Gone → ⊥) → IsGreatestLevel Holds v

over-alpha :
    (Gone : Type 0) (Holds : ℤ → Type 0) (product alpha : ℤ) → (Gone ↔ (alpha ≤ℤ pos 0))
    → ((n : ℕ) → Holds (pos (suc n)) ↔ ((pos (suc n) *ℤ (pos 2 *ℤ alpha)) ≤ℤ (pos 2 *ℤ product +ℤ alpha)))
    → IsOverAlpha Gone Holds (over_alpha product alpha)
over-alpha Gone Holds product (pos zero) none same = record { gone = λ gone. refl; left = λ left. absurd (left (none.1 (omega (arith, ints)))) }
over-alpha Gone Holds product (pos (suc a)) none same =
    rw (above-none a) (record {
      gone = λ gone. absurd (let h = none.0 gone in omega (arith, ints));
      left = λ left. held-level Holds (int_div_euclid (pos 2 *ℤ product +ℤ pos (suc a)) (pos (2 * suc a))) (λ n.
          let quotient = div-greatest (pos 2 *ℤ product +ℤ pos (suc a)) (pos (suc n)) (2 * suc a) (omega arith) in
          let here = same n in (λ holds. quotient.0 (here.0 holds), λ below. here.1 (quotient.1 below)));
    })
  where
    above-none : (a : ℕ) → int_le (pos (suc a)) (pos 0) ≡ false
    above-none a = let e : false ≡ int_le (pos (suc a)) (pos 0) = omega (arith, ints) in sym e
over-alpha Gone Holds product (negsuc a) none same = record { gone = λ gone. refl; left = λ left. absurd (left (none.1 (omega (arith, ints)))) }

-- by a fraction, and so by `linear` and `steps`
by-fraction :
    (x : Fraction) (from to : Shade)
    → IsOverAlpha (FractionReaches x (fading from to) (pos from.alpha)) (λ v. FractionReaches x (gain from to v) (due from v)) (channel_value from to x)
by-fraction x from to =
    over-alpha (FractionReaches x (fading from to) (pos from.alpha)) (λ v. FractionReaches x (gain from to v) (due from v))
    (between (premultiplied from) (premultiplied to) x) (between from.alpha to.alpha x)
    (gone-between x from to) (λ n. level-between x from to n)

pub channel-is :
    (easing : Easing) (at : Fraction) (from to : Shade) → IsNoCurve easing → IsChannelValue easing at from to (channel_value from to (eased easing at))
channel-is Linear at from to straight =
    let over = by-fraction at from to in record { gone = over.gone; left = over.left }
channel-is (Steps count jump) at from to straight =
    let over = by-fraction (stepped count jump at) from to in record { gone = over.gone; left = over.left }
channel-is (Cubic x1 y1 x2 y2) at from to straight = absurd straight

pub channel-computed : ChannelIsComputed
channel-computed easing at from to v straight den = (
  λ good. channel-unique easing at from to v (channel_value from to (eased easing at)) good (channel-is easing at from to straight),
  λ e. subst (λ (w : ℤ). IsChannelValue easing at from to w) (sym e) (channel-is easing at from to straight),
)
