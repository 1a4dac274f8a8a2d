-- The greatest whole number that a fraction on its way rounds to is a quotient with a remainder that isn't negative.
use Rattle.std.proofs.Common.{◌≡◌, ◌↔◌, ℕ, ◌+◌, ◌*◌, ◌/◌, ◌<◌, ◌≤◌, ℤ, pos, negsuc, ◌+ℤ◌, ◌-ℤ◌, ◌*ℤ◌, ◌≤ℤ◌, ◌<ℤ◌, Bool, true, false, nat_lt, arith, refl, sym, subst, ap, mul-le-mul, ltb-true, ltb-false}
use Rattle.std.specs.Int.{int_div_euclid}
use Rattle.std.proofs.lemmas.Int.{ints, clamps, by_lt_z}
use borrow.Author.Differences.{up, down, product_is, sum_is_lem}
use Rattle.page_model.specs.declared.easing.Easing.{Easing}
use Rattle.page_model.specs.declared.easing.Easing.TheVariants.{Linear, Steps, Cubic}
use Rattle.page_model.specs.Curve.{Reaches, FractionReaches, eased, stepped}
use Rattle.page_model.specs.Fraction.{Fraction}
use Rattle.page_model.specs.Slot.{Slot, IsGreatestIn, IsSlotValue, IsShownValue, IsHiddenExactlyWhere, RoundsTo, twice_the_way, twice_to_cover, held, rounded, slot_value, shown_value}
use Rattle.safety_laws.specs.ComputedLaws.{IsNoCurve, SlotIsComputed, ShownIsComputed}
use Rattle.state_laws.proofs.UniqueLemmas.{times-mono, slot-unique, shown-unique}

-- the quotient is the greatest whose product isn't above the number
div-low : (a : ℤ) (q : ℕ) → 0 < q → (int_div_euclid a (pos q) *ℤ pos q) ≤ℤ a
div-low (pos a) q some = omega (arith, ints)
div-low (negsuc a) q some = omega (arith, ints)

div-high : (a : ℤ) (q : ℕ) → 0 < q → a <ℤ ((int_div_euclid a (pos q) +ℤ pos 1) *ℤ pos q)
div-high (pos a) q some = omega (arith, ints)
div-high (negsuc a) q some =
    let next : (negsuc (a / q) +ℤ pos 1) *ℤ pos q ≡ negsuc (a / q) *ℤ pos q +ℤ pos q = one_more (negsuc (a / q)) q in
    omega (arith, ints)
  where
    one_more : (r : ℤ) (q : ℕ) → (r +ℤ pos 1) *ℤ pos q ≡ r *ℤ pos q +ℤ pos q
    one_more r q = let e = ap (λ (n : ℕ). n * q) (sum_is_lem r (pos 1)) in omega (arith, ints)

pub div-greatest : (a v : ℤ) (q : ℕ) → 0 < q → ((v *ℤ pos q) ≤ℤ a) ↔ (v ≤ℤ int_div_euclid a (pos q))
div-greatest a v q some = (
  λ within. by_lt_z (int_div_euclid a (pos q)) v
      (λ above. absurd (past a v (int_div_euclid a (pos q)) q within above (div-high a q some)))
      (λ below. below),
  λ below. chain (v *ℤ pos q) (int_div_euclid a (pos q) *ℤ pos q) a
      (times-mono v (int_div_euclid a (pos q)) q below) (div-low a q some),
) where
  chain : (a b c : ℤ) → a ≤ℤ b → b ≤ℤ c → a ≤ℤ c
  chain a b c h k = omega (arith, ints)

  past : (a v r : ℤ) (q : ℕ) → (v *ℤ pos q) ≤ℤ a → r <ℤ v → a <ℤ ((r +ℤ pos 1) *ℤ pos q) → ⊥
  past a v r q within above high =
      let next : (r +ℤ pos 1) ≤ℤ v = omega (arith, ints) in
      let more = times-mono (r +ℤ pos 1) v q next in
      apart ((r +ℤ pos 1) *ℤ pos q) (v *ℤ pos q) a more within high
    where
      apart : (b c d : ℤ) → b ≤ℤ c → c ≤ℤ d → d <ℤ b → ⊥
      apart b c d h k l = omega (arith, ints)

-- what is to be covered, times a denominator, without brackets
scaled :
    (uv dv uf df ub db ud dd u den : ℕ) → ub + 2 * dv + 1 ≡ db + 2 * uv → ud + u * db + 2 * uf ≡ dd + u * ub + 2 * df
    → ud * den + u * den + 2 * uf * den + 2 * u * den * dv ≡ dd * den + 2 * df * den + 2 * u * den * uv
scaled uv dv uf df ub db ud dd u den e f =
    let first = ap (λ (n : ℕ). u * n * den) e in
    let second = ap (λ (n : ℕ). n * den) f in
    omega arith

cover-scaled :
    (u den : ℕ) (from v : ℤ)
    → (pos u *ℤ (pos 2 *ℤ v -ℤ pos 1) -ℤ pos 2 *ℤ from) *ℤ pos den +ℤ pos (u * den) +ℤ pos 2 *ℤ from *ℤ pos den ≡ v *ℤ pos (2 * u * den)
cover-scaled u den from v =
    let b : ℤ = pos 2 *ℤ v -ℤ pos 1 in
    let d : ℤ = pos u *ℤ b -ℤ pos 2 *ℤ from in
    let e : up b + 2 * down v + 1 ≡ down b + 2 * up v = omega (arith, ints) in
    let f : up d + u * down b + 2 * up from ≡ down d + u * up b + 2 * down from = omega (arith, ints) in
    let g = scaled (up v) (down v) (up from) (down from) (up b) (down b) (up d) (down d) u den e f in
    finish d from v u den g
  where
    finish :
        (d from v : ℤ) (u den : ℕ)
        → up d * den + u * den + 2 * up from * den + 2 * u * den * down v ≡ down d * den + 2 * down from * den + 2 * u * den * up v
        → d *ℤ pos den +ℤ pos (u * den) +ℤ pos 2 *ℤ from *ℤ pos den ≡ v *ℤ pos (2 * u * den)
    finish d from v u den g =
        let h = ap (λ (n : ℕ). n * den) (product_is (pos 2) from).0 in
        let k = ap (λ (n : ℕ). n * den) (product_is (pos 2) from).1 in
        omega (arith, ints)

moved : (c w f q : ℤ) (r : ℕ) → c +ℤ pos r +ℤ f ≡ q → c ≤ℤ w → q ≤ℤ (w +ℤ f +ℤ pos r)
moved c w f q r e h = omega (arith, ints)

back : (c w f q : ℤ) (r : ℕ) → c +ℤ pos r +ℤ f ≡ q → q ≤ℤ (w +ℤ f +ℤ pos r) → c ≤ℤ w
back c w f q r e h = omega (arith, ints)

positive : (u d : ℕ) → 0 < u → 0 < d → 0 < 2 * u * d
positive u d h k = omega (arith, mul-le-mul h k)

-- a fraction on its way rounds to v or more exactly where v is at most the quotient
reach-rounds :
    (slot : Slot) (x : Fraction) (from to v : ℤ) → 0 < slot.unit → 0 < x.den
    → FractionReaches x (twice_the_way from to) (twice_to_cover slot from v) ↔ (v ≤ℤ rounded slot from to x)
reach-rounds slot x from to v unit den =
    let same = cover-scaled slot.unit x.den from v in
    let c : ℤ = twice_to_cover slot from v *ℤ pos x.den in
    let w : ℤ = twice_the_way from to *ℤ pos x.num in
    let f : ℤ = pos 2 *ℤ from *ℤ pos x.den in
    let q : ℤ = v *ℤ pos (2 * slot.unit * x.den) in
    let quotient = div-greatest (w +ℤ f +ℤ pos (slot.unit * x.den)) v (2 * slot.unit * x.den) (positive slot.unit x.den unit den) in (
      λ reached. quotient.0 (moved c w f q (slot.unit * x.den) same reached),
      λ below. back c w f q (slot.unit * x.den) same (quotient.1 below),
    )

-- the greatest of those up to a number is that number, held in the range
held-greatest :
    (slot : Slot) (Holds : ℤ → Type 0) (r : ℤ) → slot.least ≤ℤ slot.greatest → ((v : ℤ) → Holds v ↔ (v ≤ℤ r))
    → IsGreatestIn slot Holds (held slot r)
held-greatest slot Holds r some same = record {
  at_least = low slot.least slot.greatest r;
  at_most = high slot.least slot.greatest r some;
  reached = λ above. (same (held slot r)).1 (below slot.least slot.greatest r above);
  greatest = λ inside holds. past slot.least slot.greatest r inside ((same (held slot r +ℤ pos 1)).0 holds);
} where
  low : (a b r : ℤ) → a ≤ℤ held (record { unit = 1; least = a; greatest = b }) r
  low a b r = omega (arith, ints, clamps)

  high : (a b r : ℤ) → a ≤ℤ b → held (record { unit = 1; least = a; greatest = b }) r ≤ℤ b
  high a b r h = omega (arith, ints, clamps)

  below : (a b r : ℤ) → a <ℤ held (record { unit = 1; least = a; greatest = b }) r → held (record { unit = 1; least = a; greatest = b }) r ≤ℤ r
  below a b r h = omega (arith, ints, clamps)

  past : (a b r : ℤ) → held (record { unit = 1; least = a; greatest = b }) r <ℤ b → (held (record { unit = 1; least = a; greatest = b }) r +ℤ pos 1) ≤ℤ r → ⊥
  past a b r h k = omega (arith, ints, clamps)

-- by `linear` and `steps` a value is reached by the eased fraction
reaches-eased :
    (easing : Easing) (at : Fraction) (a b : ℤ) → IsNoCurve easing → Reaches easing at a b ≡ FractionReaches (eased easing at) a b
reaches-eased Linear at a b straight = refl
reaches-eased (Steps count jump) at a b straight = refl
reaches-eased (Cubic x1 y1 x2 y2) at a b straight = absurd straight

pub slot-is :
    (slot : Slot) (easing : Easing) (at : Fraction) (from to : ℤ) → IsNoCurve easing → 0 < slot.unit → slot.least ≤ℤ slot.greatest
    → 0 < (eased easing at).den → IsSlotValue slot easing at from to (slot_value slot from to (eased easing at))
slot-is slot Linear at from to straight unit some den =
    held-greatest slot (RoundsTo slot Linear at from to) (rounded slot from to at) some (λ v. reach-rounds slot at from to v unit den)
slot-is slot (Steps count jump) at from to straight unit some den =
    held-greatest slot (RoundsTo slot (Steps count jump) at from to) (rounded slot from to (stepped count jump at)) some
    (λ v. reach-rounds slot (stepped count jump at) from to v unit den)
slot-is slot (Cubic x1 y1 x2 y2) at from to straight unit some den = absurd straight

pub slot-computed : SlotIsComputed
slot-computed slot easing at from to v straight unit some den = (
  λ good. slot-unique slot easing at from to v (slot_value slot from to (eased easing at)) good (slot-is slot easing at from to straight unit some den),
  λ e. subst (λ (w : ℤ). IsSlotValue slot easing at from to w) (sym e) (slot-is slot easing at from to straight unit some den),
)

-- a fraction is 1 or more, or isn't above 0
one-reached : (x : Fraction) → FractionReaches x (pos 1) (pos 1) ↔ (x.den ≤ x.num)
one-reached x = (λ h. omega (arith, ints), λ h. omega (arith, ints))

none-reached : (x : Fraction) → FractionReaches x (negsuc 0) (pos 0) ↔ (x.num ≤ 0)
none-reached x = (λ h. omega (arith, ints), λ h. omega (arith, ints))

hidden-by : (Hides : Type 0) (m n : ℕ) → (Hides ↔ (n ≤ m)) → IsHiddenExactlyWhere Hides (nat_lt m n)
hidden-by Hides m n same = record {
  hidden = λ e. same.1 (ltb-false m n e);
  visible = λ e hides. let h = ltb-true m n e in let k = same.0 hides in absurd (omega arith);
}

pub shown-at : (easing : Easing) (at : Fraction) (from to : Bool) → IsNoCurve easing → IsShownValue easing at from to (shown_value from to (eased easing at))
shown-at easing at true true straight = refl
shown-at Linear at true false straight = hidden-by (FractionReaches at (pos 1) (pos 1)) at.num at.den (one-reached at)
shown-at (Steps count jump) at true false straight =
    let x : Fraction = stepped count jump at in hidden-by (FractionReaches x (pos 1) (pos 1)) x.num x.den (one-reached x)
shown-at (Cubic x1 y1 x2 y2) at true false straight = absurd straight
shown-at Linear at false true straight = hidden-by (FractionReaches at (negsuc 0) (pos 0)) 0 at.num (none-reached at)
shown-at (Steps count jump) at false true straight =
    let x : Fraction = stepped count jump at in hidden-by (FractionReaches x (negsuc 0) (pos 0)) 0 x.num (none-reached x)
shown-at (Cubic x1 y1 x2 y2) at false true straight = absurd straight
shown-at easing at false false straight = refl

pub shown-computed : ShownIsComputed
shown-computed easing at from to shown straight = (
  λ good. shown-unique easing at from to shown (shown_value from to (eased easing at)) good (shown-at easing at from to straight),
  λ e. subst (λ (s : Bool). IsShownValue easing at from to s) (sym e) (shown-at easing at from to straight),
)
