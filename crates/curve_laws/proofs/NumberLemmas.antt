-- Two fractions that are one number pass the same tests, and so are eased alike.
use Rattle.std.proofs.Common.{◌≡◌, ◌↔◌, ℕ, ◌+◌, ◌-◌, ◌*◌, ◌/◌, ◌^◌, ◌<◌, ◌≤◌, min, ℤ, pos, negsuc, ◌+ℤ◌, Bool, true, false, arith, subst, sym, ap, le-div_iff_mul-le, le_antisymm, le_of_mul-le-mul_right, mul-le-mul_right, le-leb, leb-true, div-mul-le_self}
use Rattle.std.proofs.lemmas.Int.{ints}
use borrow.Author.Differences.{up, down}
use Rattle.page_model.specs.declared.easing.Easing.{Easing}
use Rattle.page_model.specs.declared.easing.Easing.TheVariants.{Linear, Steps, Cubic}
use Rattle.page_model.specs.declared.easing.Jump.{Jump}
use Rattle.page_model.specs.Curve.{FractionReaches, Reaches, column_at, curve_height, first_jumps, height_at, is_left, jumps_of, point_of, stepped}
use Rattle.page_model.specs.Fraction.{Fraction, SameNumber}
use Rattle.page_model.specs.Slot.{IsHiddenExactlyWhere, IsShownValue, IsSlotValue, Slot, twice_the_way, twice_to_cover}
use Rattle.srgb_luma.proofs.GreatestLemmas.{greatest_up_to-mono}
use Rattle.curve_laws.specs.EndLaws.{CountsByNumber}

-- scaled by the other's denominator, a bound on the one is a bound on the other
bound-moved : (p q xn xd yn yd : ℕ) → 0 < xd → xn * yd ≡ yn * xd → p * xd ≤ q * xn → p * yd ≤ q * yn
bound-moved p q xn xd yn yd some same below =
    let scaled = mul-le-mul_right yd below in
    let moved = ap (λ (n : ℕ). q * n) same in
    let h : p * yd * xd ≤ q * yn * xd = omega arith in
    le_of_mul-le-mul_right h some

-- the same for differences
bounds-moved : (p r q s xn xd yn yd : ℕ) → 0 < xd → xn * yd ≡ yn * xd → p * xd + s * xn ≤ r * xd + q * xn → p * yd + s * yn ≤ r * yd + q * yn
bounds-moved p r q s xn xd yn yd some same below =
    let scaled = mul-le-mul_right yd below in
    let moved = ap (λ (n : ℕ). q * n) same in
    let other = ap (λ (n : ℕ). s * n) same in
    let h : (p * yd + s * yn) * xd ≤ (r * yd + q * yn) * xd = omega arith in
    le_of_mul-le-mul_right h some

fraction-moved : (x y : Fraction) (a b : ℤ) → 0 < x.den → SameNumber x y → FractionReaches x a b → FractionReaches y a b
fraction-moved x y a b some same reached =
    let given : up b * x.den + down a * x.num ≤ down b * x.den + up a * x.num = omega (arith, ints) in
    let moved = bounds-moved (up b) (down b) (up a) (down a) x.num x.den y.num y.den some same given in
    omega (arith, ints)

-- the steps that are over
steps-moved : (x y : Fraction) (count : ℕ) → 0 < x.den → 0 < y.den → SameNumber x y → x.num * count / x.den ≤ y.num * count / y.den
steps-moved x y count some other same =
    let q : ℕ = x.num * count / x.den in
    let low : q * x.den ≤ count * x.num = let h = div-mul-le_self (x.num * count) x.den in omega arith in
    let moved = bound-moved q count x.num x.den y.num y.den some same low in
    let h : q * y.den ≤ y.num * count = omega arith in
    (le-div_iff_mul-le {x = q} {y = y.num * count} other).1 h

stepped-same : (x y : Fraction) (count : ℕ) (jump : Jump) → 0 < x.den → 0 < y.den → SameNumber x y → stepped count jump x ≡ stepped count jump y
stepped-same x y count jump some other same =
    let e : x.num * count / x.den ≡ y.num * count / y.den =
    le_antisymm (steps-moved x y count some other same) (steps-moved y x count other some (sym same)) in
    ap (λ (n : ℕ). record { num = min (n + first_jumps jump) (jumps_of count jump); den = jumps_of count jump }) e

-- the points not right of it
left-moved : (x1 x2 : ℕ) (x y : Fraction) (m j : ℕ) → 0 < x.den → SameNumber x y → is_left x1 x2 x m j ≡ true → is_left x1 x2 y m j ≡ true
left-moved x1 x2 x y m j some same e =
    let column : ℕ = column_at x1 x2 (m - j) j in
    let whole : ℕ = 1000 * (m * m * m) in
    le-leb (column * y.den) (y.num * whole) (turned column whole x y some same (leb-true (column * x.den) (x.num * whole) e))
  where
    turned : (c w : ℕ) (x y : Fraction) → 0 < x.den → SameNumber x y → c * x.den ≤ x.num * w → c * y.den ≤ y.num * w
    turned c w x y some same h =
        let given : c * x.den ≤ w * x.num = omega arith in
        let moved = bound-moved c w x.num x.den y.num y.den some same given in
        omega arith

point-same : (x1 x2 : ℕ) (x y : Fraction) (m : ℕ) → 0 < x.den → 0 < y.den → SameNumber x y → point_of x1 x2 x m ≡ point_of x1 x2 y m
unfolding point_of
point-same x1 x2 x y m some other same =
    le_antisymm
    (greatest_up_to-mono m (is_left x1 x2 x m) (is_left x1 x2 y m) (λ j. left-moved x1 x2 x y m j some same))
    (greatest_up_to-mono m (is_left x1 x2 y m) (is_left x1 x2 x m) (λ j. left-moved x1 x2 y x m j other (sym same)))

height-same : (x1 : ℕ) (y1 : ℤ) (x2 : ℕ) (y2 : ℤ) (x y : Fraction) (m : ℕ) → 0 < x.den → 0 < y.den → SameNumber x y → curve_height x1 y1 x2 y2 x m ≡ curve_height x1 y1 x2 y2 y m
height-same x1 y1 x2 y2 x y m some other same = ap (λ (j : ℕ). height_at y1 y2 (m - j) j) (point-same x1 x2 x y m some other same)

reach-moved : (easing : Easing) (x y : Fraction) (a b : ℤ) → 0 < x.den → 0 < y.den → SameNumber x y → Reaches easing x a b → Reaches easing y a b
reach-moved Linear x y a b some other same reached = fraction-moved x y a b some same reached
reach-moved (Steps count jump) x y a b some other same reached =
    subst (λ (z : Fraction). FractionReaches z a b) (stepped-same x y count jump some other same) reached
reach-moved (Cubic x1 y1 x2 y2) x y a b some other same reached =
    λ e. rw (height-same x1 y1 x2 y2 x y (2 ^ e) some other same) at (reached e)

reach-same : (easing : Easing) (x y : Fraction) (a b : ℤ) → 0 < x.den → 0 < y.den → SameNumber x y → (Reaches easing x a b ↔ Reaches easing y a b)
reach-same easing x y a b some other same = (reach-moved easing x y a b some other same, reach-moved easing y x a b other some (sym same))

slot-moved : (slot : Slot) (easing : Easing) (x y : Fraction) (from to v : ℤ) → 0 < x.den → 0 < y.den → SameNumber x y → IsSlotValue slot easing x from to v → IsSlotValue slot easing y from to v
slot-moved slot easing x y from to v some other same good =
    record {
      at_least = good.at_least;
      at_most = good.at_most;
      reached = λ above. reach-moved easing x y (twice_the_way from to) (twice_to_cover slot from v) some other same (good.reached above);
      greatest = λ below holds. good.greatest below
          (reach-moved easing y x (twice_the_way from to) (twice_to_cover slot from (v +ℤ pos 1)) other some (sym same) holds);
    }

hidden-moved : (P Q : Type 0) (shown : Bool) → (P ↔ Q) → IsHiddenExactlyWhere P shown → IsHiddenExactlyWhere Q shown
hidden-moved P Q shown same good = record {
  hidden = λ e. same.0 (good.hidden e);
  visible = λ e hides. good.visible e (same.1 hides);
}

shown-moved : (easing : Easing) (x y : Fraction) (from to shown : Bool) → 0 < x.den → 0 < y.den → SameNumber x y → IsShownValue easing x from to shown → IsShownValue easing y from to shown
shown-moved easing x y true true shown some other same good = good
shown-moved easing x y true false shown some other same good =
    hidden-moved (Reaches easing x (pos 1) (pos 1)) (Reaches easing y (pos 1) (pos 1)) shown (reach-same easing x y (pos 1) (pos 1) some other same) good
shown-moved easing x y false true shown some other same good =
    hidden-moved (Reaches easing x (negsuc 0) (pos 0)) (Reaches easing y (negsuc 0) (pos 0)) shown (reach-same easing x y (negsuc 0) (pos 0) some other same) good
shown-moved easing x y false false shown some other same good = good

pub counts-by_number : CountsByNumber
counts-by_number = record {
  reach = reach-same;
  slot = λ slot easing x y from to v some other same. (
    slot-moved slot easing x y from to v some other same,
    slot-moved slot easing y x from to v other some (sym same),
  );
  shown = λ easing x y from to shown some other same. (
    shown-moved easing x y from to shown some other same,
    shown-moved easing y x from to shown other some (sym same),
  );
}
