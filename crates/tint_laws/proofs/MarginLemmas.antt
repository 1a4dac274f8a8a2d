-- The margin of the wide tests of far, 2^-24 of the squared distance, is more than the floors and ceilings in parts of 2^40 can
-- be wrong: so what is far by the wide margin is far by the least distance, and what is far by the greatest distance is nearly far.
use Rattle.std.proofs.Common.{◌≡◌, ℕ, ◌+◌, ◌-◌, ◌*◌, ◌/◌, ◌^◌, ◌<◌, ◌≤◌, arith, inl, inr}
use Rattle.std.proofs.lemmas.Bool.{cases_Bool, cases_lt}
use Rattle.std.proofs.lemmas.Nat.{div-add-mod', mod_below}
use Rattle.std.proofs.Math.Nat.{mul-le-mul, mul-le-mul_left, mul-le-mul_right, le_of_mul-le-mul_right, lt_of_mul-lt-mul_left}
use Rattle.page_model.specs.Change.{Enclosed, enclosed, least_gap, greatest_gap, AreFarBy, AreFarOrNearly, AreFarAndMore}
use Rattle.page_model.specs.declared.colour.Rgb.{Rgb}
use Rattle.page_model.specs.Red.{Chromaticity, chromaticity_of, gap, is_black}
use Rattle.flash_laws.proofs.SureLemmas.{over-pos}
use Rattle.flash_laws.proofs.FarLemmas.{encloses, over_both, least-below}

-- the ends of an enclosure are less than one part away
pub record IsClose (t num den : ℕ) (e : Enclosed) : Type 0 where
  above : num * t ≤ e.lo * den + den
  below : e.hi * den ≤ num * t + den

pub close : (num den : ℕ) → 0 < den → IsClose (2 ^ 40) num den (enclosed num den)
close num den some = record {
  above = floor-close (num * 2 ^ 40) den some;
  below = ceiling-close (num * 2 ^ 40) den some;
} where
  floor-close : (m d : ℕ) → 0 < d → m ≤ m / d * d + d
  floor-close m d some = omega (arith, div-add-mod' m d, mod_below m d some)

  ceiling-close : (m d : ℕ) → 0 < d → (m + (d - 1)) / d * d ≤ m + d
  ceiling-close m d some = omega (arith, div-add-mod' (m + (d - 1)) d)

-- two fractions a / d and b / e, over d * e
pub record AreClose (t x y n : ℕ) (p q : Enclosed) : Type 0 where
  p_above : t * x ≤ p.lo * n + n
  p_below : p.hi * n ≤ t * x + n
  q_above : t * y ≤ q.lo * n + n
  q_below : q.hi * n ≤ t * y + n

pub close_both : (t a d b e : ℕ) (p q : Enclosed) → IsClose t a d p → IsClose t b e q → AreClose t (a * e) (b * d) (d * e) p q
close_both t a d b e p q first second =
    let one = mul-le-mul_right e first.above in
    let two = mul-le-mul_right e first.below in
    let three = mul-le-mul_right d second.above in
    let four = mul-le-mul_right d second.below in
    record {
      p_above = omega (arith, one);
      p_below = omega (arith, two);
      q_above = omega (arith, three);
      q_below = omega (arith, four);
    }

-- the least distance is less than two parts below the exact one, and the greatest one less than two above it
pub least-close : (t x y n : ℕ) (p q : Enclosed) → AreClose t x y n p q → t * gap x y ≤ (least_gap p q + 2) * n
least-close t x y n p q near =
    elim (cases_lt y x) [
      | inl right ↦ one_way t x y n p.lo q.hi (gap x y) (least_gap p q) (omega (arith, right)) (omega arith) near.p_above near.q_below
      | inr left ↦ one_way t y x n q.lo p.hi (gap x y) (least_gap p q) (omega (arith, left)) (omega arith) near.q_above near.p_below
    ] where
      one_way : (t x y n lo hi k least : ℕ) → x ≡ y + k → lo ≤ hi + least → t * x ≤ lo * n + n → hi * n ≤ t * y + n
          → t * k ≤ (least + 2) * n
      one_way t x y n lo hi k least e within a b =
          let split : t * x ≡ t * y + t * k = rw e (omega arith) in
          let more = mul-le-mul_right n within in
          omega (arith, split, more, a, b)

pub greatest-close : (t x y n : ℕ) (p q : Enclosed) → AreClose t x y n p q → greatest_gap p q * n ≤ t * gap x y + 2 * n
greatest-close t x y n p q near =
    elim (cases_lt (p.hi - q.lo) (q.hi - p.lo)) [
      | inl second ↦
          let is : greatest_gap p q ≡ q.hi - p.lo = omega (arith, second) in
          rw is (one_way t y x n q.hi p.lo (q.hi - p.lo) (gap x y) (omega arith) (omega arith) near.q_below near.p_above)
      | inr first ↦
          let is : greatest_gap p q ≡ p.hi - q.lo = omega (arith, first) in
          rw is (one_way t x y n p.hi q.lo (p.hi - q.lo) (gap x y) (omega arith) (omega arith) near.p_below near.q_above)
    ] where
      one_way : (t x y n hi lo k far : ℕ) → (0 < k → hi ≡ lo + k) → x ≤ y + far → hi * n ≤ t * x + n → t * y ≤ lo * n + n
          → k * n ≤ t * far + 2 * n
      one_way t x y n hi lo k far e within a b =
          elim (cases_lt 0 k) [
            | inl some ↦
                let split : hi * n ≡ lo * n + k * n = rw (e some) (omega arith) in
                let more = mul-le-mul_left t within in
                omega (arith, split, more, a, b)
            | inr none ↦ let nothing : k ≡ 0 = omega (arith, none) in rw nothing (omega arith)
          ]

-- distances are at most 4 and 1, since no coordinate is more
gap-bounded : (a b n k : ℕ) → a ≤ k * n → b ≤ k * n → gap a b ≤ k * n
gap-bounded a b n k first second = omega (arith, first, second)

-- a point whose coordinates are at most 4 and 1
pub record IsBounded (p : Chromaticity) : Type 0 where
  pub over : 0 < p.over
  pub u : p.u ≤ 4 * p.over
  pub v : p.v ≤ p.over

-- the coordinates of a colour
pub bounded : (c : Rgb) → IsBounded (chromaticity_of c)
bounded c =
    elim (cases_Bool (is_black c)) [
      | inl black ↦ record { over = over-pos c; u = rw black (omega arith); v = rw black (omega arith) }
      | inr coloured ↦ record { over = over-pos c; u = rw coloured (omega arith); v = rw coloured (omega arith) }
    ]

pub gap-scaled : (a d b e k : ℕ) → a ≤ k * d → b ≤ k * e → gap (a * e) (b * d) ≤ k * (d * e)
gap-scaled a d b e k first second =
    let one = mul-le-mul_right e first in
    let two = mul-le-mul_right d second in
    gap-bounded (a * e) (b * d) (d * e) k (omega (arith, one)) (omega (arith, two))

-- from the wide margin to the least distance: n is the product of the denominators
sure-margin : (n lu lv gu gv : ℕ) → 0 < n → lu * n ≤ 2 ^ 40 * gu → lv * n ≤ 2 ^ 40 * gv → gu ≤ 4 * n → gv ≤ 1 * n
    → 2 ^ 40 * gu ≤ (lu + 2) * n → 2 ^ 40 * gv ≤ (lv + 2) * n
    → (2 ^ 24 + 25) * (n * n) < 25 * 2 ^ 24 * (gu * gu + gv * gv) → 2 ^ 80 < 25 * (lu * lu + lv * lv)
sure-margin n lu lv gu gv some u v u_most v_most u_close v_close far =
    let us = mul-le-mul u_close u_close in
    let vs = mul-le-mul v_close v_close in
    let lu_most : lu ≤ 2 ^ 42 = le_of_mul-le-mul_right {k = n} (omega (arith, u, u_most)) some in
    let lv_most : lv ≤ 2 ^ 40 = le_of_mul-le-mul_right {k = n} (omega (arith, v, v_most)) some in
    let squares : (2 ^ 24 + 25) * 2 ^ 80 < 25 * 2 ^ 24 * ((lu + 2) * (lu + 2) + (lv + 2) * (lv + 2)) =
    lt_of_mul-lt-mul_left (n * n) (omega (arith, us, vs, far)) in
    omega (arith, squares, lu_most, lv_most)

-- and from the greatest distance to the wide margin
possible-margin : (n mu mv gu gv : ℕ) → 0 < n → gu ≤ 4 * n → gv ≤ 1 * n
    → mu * n ≤ 2 ^ 40 * gu + 2 * n → mv * n ≤ 2 ^ 40 * gv + 2 * n → 2 ^ 80 < 25 * (mu * mu + mv * mv)
    → (2 ^ 24 - 25) * (n * n) < 25 * 2 ^ 24 * (gu * gu + gv * gv)
possible-margin n mu mv gu gv some u_most v_most u_close v_close far =
    let us = mul-le-mul u_close u_close in
    let vs = mul-le-mul v_close v_close in
    let u_side = mul-le-mul_right n u_most in
    let v_side = mul-le-mul_right n v_most in
    let some_square = mul-le-mul some some in
    let scaled = mul-le-mul_right (n * n) far in
    omega (arith, us, vs, u_side, v_side, some_square, scaled)

pub far_and_more-by_least : (p q : Chromaticity) → IsBounded p → IsBounded q → AreFarAndMore p q → AreFarBy least_gap p q
far_and_more-by_least p q first second far =
    let some : 0 < p.over * q.over = mul-le-mul first.over second.over in
    let pu = enclosed p.u p.over in
    let qu = enclosed q.u q.over in
    let pv = enclosed p.v p.over in
    let qv = enclosed q.v q.over in
    let u = over_both (2 ^ 40) p.u p.over q.u q.over pu qu (encloses p.u p.over first.over) (encloses q.u q.over second.over) in
    let v = over_both (2 ^ 40) p.v p.over q.v q.over pv qv (encloses p.v p.over first.over) (encloses q.v q.over second.over) in
    let u_near = close_both (2 ^ 40) p.u p.over q.u q.over pu qu (close p.u p.over first.over) (close q.u q.over second.over) in
    let v_near = close_both (2 ^ 40) p.v p.over q.v q.over pv qv (close p.v p.over first.over) (close q.v q.over second.over) in
    sure-margin (p.over * q.over) (least_gap pu qu) (least_gap pv qv) (gap (p.u * q.over) (q.u * p.over)) (gap (p.v * q.over) (q.v * p.over)) some
    (least-below (2 ^ 40) (p.u * q.over) (q.u * p.over) (p.over * q.over) pu.lo pu.hi qu.lo qu.hi some u.0 u.1 u.2 u.3)
    (least-below (2 ^ 40) (p.v * q.over) (q.v * p.over) (p.over * q.over) pv.lo pv.hi qv.lo qv.hi some v.0 v.1 v.2 v.3)
    (gap-scaled p.u p.over q.u q.over 4 first.u second.u)
    (gap-scaled p.v p.over q.v q.over 1 (omega (arith, first.v)) (omega (arith, second.v)))
    (least-close (2 ^ 40) (p.u * q.over) (q.u * p.over) (p.over * q.over) pu qu u_near)
    (least-close (2 ^ 40) (p.v * q.over) (q.v * p.over) (p.over * q.over) pv qv v_near)
    far

pub by_greatest-far_or_nearly : (p q : Chromaticity) → IsBounded p → IsBounded q → AreFarBy greatest_gap p q → AreFarOrNearly p q
by_greatest-far_or_nearly p q first second far =
    let some : 0 < p.over * q.over = mul-le-mul first.over second.over in
    let pu = enclosed p.u p.over in
    let qu = enclosed q.u q.over in
    let pv = enclosed p.v p.over in
    let qv = enclosed q.v q.over in
    let u_near = close_both (2 ^ 40) p.u p.over q.u q.over pu qu (close p.u p.over first.over) (close q.u q.over second.over) in
    let v_near = close_both (2 ^ 40) p.v p.over q.v q.over pv qv (close p.v p.over first.over) (close q.v q.over second.over) in
    possible-margin (p.over * q.over) (greatest_gap pu qu) (greatest_gap pv qv) (gap (p.u * q.over) (q.u * p.over)) (gap (p.v * q.over) (q.v * p.over)) some
    (gap-scaled p.u p.over q.u q.over 4 first.u second.u)
    (gap-scaled p.v p.over q.v q.over 1 (omega (arith, first.v)) (omega (arith, second.v)))
    (greatest-close (2 ^ 40) (p.u * q.over) (q.u * p.over) (p.over * q.over) pu qu u_near)
    (greatest-close (2 ^ 40) (p.v * q.over) (q.v * p.over) (p.over * q.over) pv qv v_near)
    far
