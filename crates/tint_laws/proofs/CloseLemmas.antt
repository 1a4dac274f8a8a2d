-- The squared distance by floors and ceilings is less than 2^-24 away from the exact one, over the squared product of the
-- denominators.
use Rattle.std.proofs.Common.{ℕ, ◌+◌, ◌*◌, ◌^◌, ◌<◌, ◌≤◌, arith}
use Rattle.std.proofs.Math.Nat.{mul-le-mul, mul-le-mul_right, le_of_mul-le-mul_right}
use Rattle.page_model.specs.Change.{enclosed, greatest_gap, least_gap}
use Rattle.page_model.specs.Red.{Chromaticity, chromaticity_of, gap}
use Rattle.flash_laws.proofs.FarLemmas.{encloses, greatest-above, least-below, over_both}
use Rattle.tint_laws.specs.MarginLaws.{DistancesAreClose, IsWithinMargin}
use Rattle.tint_laws.proofs.MarginLemmas.{IsBounded, bounded, close, close_both, gap-scaled, greatest-close, least-close}

-- n is the product of the denominators, l the least distances, m the greatest ones, g the exact ones over n
least : (n lu lv gu gv : ℕ) → lu * n ≤ 2 ^ 40 * gu → lv * n ≤ 2 ^ 40 * gv → (lu * lu + lv * lv) * (n * n) ≤ 2 ^ 80 * (gu * gu + gv * gv)
least n lu lv gu gv u v = let us = mul-le-mul u u in let vs = mul-le-mul v v in omega (arith, us, vs)

greatest : (n mu mv gu gv : ℕ) → 2 ^ 40 * gu ≤ mu * n → 2 ^ 40 * gv ≤ mv * n → 2 ^ 80 * (gu * gu + gv * gv) ≤ (mu * mu + mv * mv) * (n * n)
greatest n mu mv gu gv u v = let us = mul-le-mul u u in let vs = mul-le-mul v v in omega (arith, us, vs)

above_least : (n lu lv gu gv : ℕ) → 0 < n → gu ≤ 4 * n → gv ≤ 1 * n → lu * n ≤ 2 ^ 40 * gu → lv * n ≤ 2 ^ 40 * gv
    → 2 ^ 40 * gu ≤ (lu + 2) * n → 2 ^ 40 * gv ≤ (lv + 2) * n → 2 ^ 80 * (gu * gu + gv * gv) < (lu * lu + lv * lv + 2 ^ 56) * (n * n)
above_least n lu lv gu gv some u_most v_most u v u_above v_above =
    let us = mul-le-mul u_above u_above in
    let vs = mul-le-mul v_above v_above in
    let lu_most : lu ≤ 2 ^ 42 = le_of_mul-le-mul_right {k = n} (omega (arith, u, u_most)) some in
    let lv_most : lv ≤ 2 ^ 40 = le_of_mul-le-mul_right {k = n} (omega (arith, v, v_most)) some in
    let u_side : lu * (n * n) ≤ 2 ^ 42 * (n * n) = mul-le-mul_right (n * n) lu_most in
    let v_side : lv * (n * n) ≤ 2 ^ 40 * (n * n) = mul-le-mul_right (n * n) lv_most in
    let some_square : 1 * 1 ≤ n * n = mul-le-mul some some in
    omega (arith, us, vs, u_side, v_side, some_square)

below_greatest : (n mu mv gu gv : ℕ) → 0 < n → gu ≤ 4 * n → gv ≤ 1 * n → mu * n ≤ 2 ^ 40 * gu + 2 * n → mv * n ≤ 2 ^ 40 * gv + 2 * n
    → (mu * mu + mv * mv) * (n * n) < 2 ^ 80 * (gu * gu + gv * gv) + 2 ^ 56 * (n * n)
below_greatest n mu mv gu gv some u_most v_most u v =
    let us = mul-le-mul u u in
    let vs = mul-le-mul v v in
    let u_side : gu * n ≤ 4 * n * n = mul-le-mul_right n u_most in
    let v_side : gv * n ≤ 1 * n * n = mul-le-mul_right n v_most in
    let some_square : 1 * 1 ≤ n * n = mul-le-mul some some in
    omega (arith, us, vs, u_side, v_side, some_square)

within_margin : (p q : Chromaticity) → IsBounded p → IsBounded q → IsWithinMargin p q
within_margin p q first second =
    let n = p.over * q.over in
    let some : 0 < p.over * q.over = mul-le-mul first.over second.over in
    let pu = enclosed p.u p.over in
    let qu = enclosed q.u q.over in
    let pv = enclosed p.v p.over in
    let qv = enclosed q.v q.over in
    let gu = gap (p.u * q.over) (q.u * p.over) in
    let gv = gap (p.v * q.over) (q.v * p.over) in
    let u = over_both (2 ^ 40) p.u p.over q.u q.over pu qu (encloses p.u p.over first.over) (encloses q.u q.over second.over) in
    let v = over_both (2 ^ 40) p.v p.over q.v q.over pv qv (encloses p.v p.over first.over) (encloses q.v q.over second.over) in
    let u_near = close_both (2 ^ 40) p.u p.over q.u q.over pu qu (close p.u p.over first.over) (close q.u q.over second.over) in
    let v_near = close_both (2 ^ 40) p.v p.over q.v q.over pv qv (close p.v p.over first.over) (close q.v q.over second.over) in
    let u_most = gap-scaled p.u p.over q.u q.over 4 first.u second.u in
    let v_most = gap-scaled p.v p.over q.v q.over 1 (omega (arith, first.v)) (omega (arith, second.v)) in
    let u_least = least-below (2 ^ 40) (p.u * q.over) (q.u * p.over) (p.over * q.over) pu.lo pu.hi qu.lo qu.hi some u.0 u.1 u.2 u.3 in
    let v_least = least-below (2 ^ 40) (p.v * q.over) (q.v * p.over) (p.over * q.over) pv.lo pv.hi qv.lo qv.hi some v.0 v.1 v.2 v.3 in
    let u_greatest = greatest-above (2 ^ 40) (p.u * q.over) (q.u * p.over) (p.over * q.over) pu.lo pu.hi qu.lo qu.hi u.0 u.1 u.2 u.3 in
    let v_greatest = greatest-above (2 ^ 40) (p.v * q.over) (q.v * p.over) (p.over * q.over) pv.lo pv.hi qv.lo qv.hi v.0 v.1 v.2 v.3 in
    let u_above = least-close (2 ^ 40) (p.u * q.over) (q.u * p.over) (p.over * q.over) pu qu u_near in
    let v_above = least-close (2 ^ 40) (p.v * q.over) (q.v * p.over) (p.over * q.over) pv qv v_near in
    let u_below = greatest-close (2 ^ 40) (p.u * q.over) (q.u * p.over) (p.over * q.over) pu qu u_near in
    let v_below = greatest-close (2 ^ 40) (p.v * q.over) (q.v * p.over) (p.over * q.over) pv qv v_near in
    record {
      least = least n (least_gap pu qu) (least_gap pv qv) gu gv u_least v_least;
      greatest = greatest n (greatest_gap pu qu) (greatest_gap pv qv) gu gv u_greatest v_greatest;
      above_least = above_least n (least_gap pu qu) (least_gap pv qv) gu gv some u_most v_most u_least v_least u_above v_above;
      below_greatest = below_greatest n (greatest_gap pu qu) (greatest_gap pv qv) gu gv some u_most v_most u_below v_below;
    }

pub distances_are_close : DistancesAreClose
distances_are_close a b = within_margin (chromaticity_of a) (chromaticity_of b) (bounded a) (bounded b)
