-- How far two points of the chromaticity diagram are, by floors and ceilings of their coordinates in parts of 2^40: the least
-- distance is at most the exact one, and that at most the greatest.
use Rattle.std.proofs.Common.{◌≡◌, ℕ, ◌+◌, ◌-◌, ◌*◌, ◌/◌, ◌^◌, ◌<◌, ◌≤◌, inl, inr, arith}
use Rattle.std.specs.Prelude.{max}
use Rattle.std.proofs.lemmas.Bool.{cases_lt}
use Rattle.std.proofs.lemmas.Nat.{div-add-mod', mod_below}
use Rattle.std.proofs.Math.Nat.{mul-le-mul, mul-le-mul_left, mul-le-mul_right, le_of_mul-le-mul_right, lt_of_mul-lt-mul_left}
use Rattle.page_model.specs.Change.{Enclosed, enclosed, least_gap, greatest_gap, AreFarBy, AreFarOrNearly, AreFarAndMore}
use Rattle.page_model.specs.Red.{Chromaticity, AreFar, gap, squared}

-- the fraction num / den lies between the ends of an enclosure, in parts of t
pub record Encloses (t num den : ℕ) (e : Enclosed) : Type 0 where
  pub above : e.lo * den ≤ num * t
  pub below : num * t ≤ e.hi * den

floor : (m d : ℕ) → 0 < d → m / d * d ≤ m
floor m d some = omega (arith, div-add-mod' m d)

ceiling : (m d : ℕ) → 0 < d → m ≤ (m + (d - 1)) / d * d
ceiling m d some =
    let whole = div-add-mod' (m + (d - 1)) d in
    let rest = mod_below (m + (d - 1)) d some in
    omega (arith, whole, rest)

pub encloses : (num den : ℕ) → 0 < den → Encloses (2 ^ 40) num den (enclosed num den)
encloses num den some = record { above = floor (num * 2 ^ 40) den some; below = ceiling (num * 2 ^ 40) den some }

-- two fractions a / d and b / e, over d * e
pub over_both : (t a d b e : ℕ) (p q : Enclosed) → Encloses t a d p → Encloses t b e q
    → (p.lo * (d * e) ≤ t * (a * e)) × (t * (a * e) ≤ p.hi * (d * e)) × (q.lo * (d * e) ≤ t * (b * d)) × (t * (b * d) ≤ q.hi * (d * e))
over_both t a d b e p q first second =
    let one = mul-le-mul_right e first.above in
    let two = mul-le-mul_right e first.below in
    let three = mul-le-mul_right d second.above in
    let four = mul-le-mul_right d second.below in
    (omega (arith, one), omega (arith, two), omega (arith, three), omega (arith, four))

-- numbers between the ends of two enclosures, over a unit n: lo * n ≤ t * x ≤ hi * n
pub least-below : (t x y n plo phi qlo qhi : ℕ) → 0 < n → plo * n ≤ t * x → t * x ≤ phi * n → qlo * n ≤ t * y → t * y ≤ qhi * n
    → ((plo - qhi) + (qlo - phi)) * n ≤ t * gap x y
least-below t x y n plo phi qlo qhi some a b c d =
    elim (cases_lt qhi plo) [
      | inl right ↦
          let p_order : plo ≤ phi = le_of_mul-le-mul_right {k = n} (omega (arith, a, b)) some in
          let q_order : qlo ≤ qhi = le_of_mul-le-mul_right {k = n} (omega (arith, c, d)) some in
          let alone : (plo - qhi) + (qlo - phi) ≡ plo - qhi = omega (arith, p_order, q_order, right) in
          rw alone (one_way t x y n plo qhi (plo - qhi) (omega (arith, right)) a d)
      | inr other ↦
          let alone : (plo - qhi) + (qlo - phi) ≡ qlo - phi = omega (arith, other) in
          rw alone (elim (cases_lt phi qlo) [
            | inl left ↦ other_way t x y n phi qlo (qlo - phi) (omega (arith, left)) b c
            | inr meet ↦ let none : qlo - phi ≡ 0 = omega (arith, meet) in rw none (omega arith)
          ])
    ] where
      one_way : (t x y n plo qhi k : ℕ) → plo ≡ qhi + k → plo * n ≤ t * x → t * y ≤ qhi * n → k * n ≤ t * gap x y
      one_way t x y n plo qhi k e a d =
          let more : plo * n ≡ qhi * n + k * n = rw e (omega arith) in
          let part = mul-le-mul_left t (below_gap x y) in
          omega (arith, more, a, d, part) where
            below_gap : (x y : ℕ) → x ≤ y + gap x y
            below_gap x y = omega arith

      other_way : (t x y n phi qlo k : ℕ) → qlo ≡ phi + k → t * x ≤ phi * n → qlo * n ≤ t * y → k * n ≤ t * gap x y
      other_way t x y n phi qlo k e b c =
          let more : qlo * n ≡ phi * n + k * n = rw e (omega arith) in
          let part = mul-le-mul_left t (above_gap x y) in
          omega (arith, more, b, c, part) where
            above_gap : (x y : ℕ) → y ≤ x + gap x y
            above_gap x y = omega arith

pub greatest-above : (t x y n plo phi qlo qhi : ℕ) → plo * n ≤ t * x → t * x ≤ phi * n → qlo * n ≤ t * y → t * y ≤ qhi * n
    → t * gap x y ≤ max (phi - qlo) (qhi - plo) * n
greatest-above t x y n plo phi qlo qhi a b c d =
    elim (cases_lt y x) [
      | inl right ↦
          let is : gap x y ≡ x - y = omega (arith, right) in
          rw is (through t x y n qlo phi (x - y) (phi - qlo) (max (phi - qlo) (qhi - plo)) (omega (arith, right)) (omega arith) (omega arith) b c)
      | inr left ↦
          let is : gap x y ≡ y - x = omega (arith, left) in
          rw is (through t y x n plo qhi (y - x) (qhi - plo) (max (phi - qlo) (qhi - plo)) (omega (arith, left)) (omega arith) (omega arith) d a)
    ] where
      through : (t x y n qlo phi k m most : ℕ) → x ≡ y + k → phi ≤ qlo + m → m ≤ most → t * x ≤ phi * n → qlo * n ≤ t * y
          → t * k ≤ most * n
      through t x y n qlo phi k m most e within up b c =
          let split : t * x ≡ t * y + t * k = rw e (omega arith) in
          let wide = mul-le-mul_right n within in
          let wider = mul-le-mul_right n up in
          omega (arith, split, wide, wider, b, c)

-- from distances in parts of 2^40 to exact ones, and back: n is the product of the denominators
far-exact : (n lu lv gu gv : ℕ) → 0 < n → lu * n ≤ 2 ^ 40 * gu → lv * n ≤ 2 ^ 40 * gv → 2 ^ 80 < 25 * (lu * lu + lv * lv)
    → n * n < 25 * (gu * gu + gv * gv)
far-exact n lu lv gu gv some u v far =
    let us = mul-le-mul u u in
    let vs = mul-le-mul v v in
    let some_square = mul-le-mul some some in
    let scaled = mul-le-mul_right (n * n) far in
    omega (arith, us, vs, some_square, scaled)

far-enclosed : (n mu mv gu gv : ℕ) → 2 ^ 40 * gu ≤ mu * n → 2 ^ 40 * gv ≤ mv * n → n * n < 25 * (gu * gu + gv * gv)
    → 2 ^ 80 < 25 * (mu * mu + mv * mv)
far-enclosed n mu mv gu gv u v far =
    let us = mul-le-mul u u in
    let vs = mul-le-mul v v in
    lt_of_mul-lt-mul_left (n * n) (omega (arith, us, vs, far))

pub far-by_least : (p q : Chromaticity) → 0 < p.over → 0 < q.over → AreFarBy least_gap p q → AreFar p q
far-by_least p q first second far =
    let n = p.over * q.over in
    let some : 0 < p.over * q.over = mul-le-mul first second in
    let u = over_both (2 ^ 40) p.u p.over q.u q.over (enclosed p.u p.over) (enclosed q.u q.over) (encloses p.u p.over first) (encloses q.u q.over second) in
    let v = over_both (2 ^ 40) p.v p.over q.v q.over (enclosed p.v p.over) (enclosed q.v q.over) (encloses p.v p.over first) (encloses q.v q.over second) in
    far-exact (p.over * q.over) (least_gap (enclosed p.u p.over) (enclosed q.u q.over)) (least_gap (enclosed p.v p.over) (enclosed q.v q.over))
    (gap (p.u * q.over) (q.u * p.over)) (gap (p.v * q.over) (q.v * p.over)) some
    (least-below (2 ^ 40) (p.u * q.over) (q.u * p.over) (p.over * q.over) (enclosed p.u p.over).lo (enclosed p.u p.over).hi (enclosed q.u q.over).lo (enclosed q.u q.over).hi some u.0 u.1 u.2 u.3)
    (least-below (2 ^ 40) (p.v * q.over) (q.v * p.over) (p.over * q.over) (enclosed p.v p.over).lo (enclosed p.v p.over).hi (enclosed q.v q.over).lo (enclosed q.v q.over).hi some v.0 v.1 v.2 v.3)
    far

pub far-by_greatest : (p q : Chromaticity) → 0 < p.over → 0 < q.over → AreFar p q → AreFarBy greatest_gap p q
far-by_greatest p q first second far =
    let u = over_both (2 ^ 40) p.u p.over q.u q.over (enclosed p.u p.over) (enclosed q.u q.over) (encloses p.u p.over first) (encloses q.u q.over second) in
    let v = over_both (2 ^ 40) p.v p.over q.v q.over (enclosed p.v p.over) (enclosed q.v q.over) (encloses p.v p.over first) (encloses q.v q.over second) in
    far-enclosed (p.over * q.over) (greatest_gap (enclosed p.u p.over) (enclosed q.u q.over)) (greatest_gap (enclosed p.v p.over) (enclosed q.v q.over))
    (gap (p.u * q.over) (q.u * p.over)) (gap (p.v * q.over) (q.v * p.over))
    (greatest-above (2 ^ 40) (p.u * q.over) (q.u * p.over) (p.over * q.over) (enclosed p.u p.over).lo (enclosed p.u p.over).hi (enclosed q.u q.over).lo (enclosed q.u q.over).hi u.0 u.1 u.2 u.3)
    (greatest-above (2 ^ 40) (p.v * q.over) (q.v * p.over) (p.over * q.over) (enclosed p.v p.over).lo (enclosed p.v p.over).hi (enclosed q.v q.over).lo (enclosed q.v q.over).hi v.0 v.1 v.2 v.3)
    far

-- the wide tests
wide-sure : (n d : ℕ) → (2 ^ 24 + 25) * n < 25 * 2 ^ 24 * d → n < 25 * d
wide-sure n d far = omega (arith, far)

wide-possible : (n d : ℕ) → n < 25 * d → (2 ^ 24 - 25) * n < 25 * 2 ^ 24 * d
wide-possible n d far = omega (arith, far)

pub far-and_more : (p q : Chromaticity) → AreFarAndMore p q → AreFar p q
far-and_more p q far =
    wide-sure (squared (p.over * q.over)) (squared (gap (p.u * q.over) (q.u * p.over)) + squared (gap (p.v * q.over) (q.v * p.over))) far

pub far-or_nearly : (p q : Chromaticity) → AreFar p q → AreFarOrNearly p q
far-or_nearly p q far =
    wide-possible (squared (p.over * q.over)) (squared (gap (p.u * q.over) (q.u * p.over)) + squared (gap (p.v * q.over) (q.v * p.over))) far
