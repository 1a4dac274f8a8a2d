-- A fraction rounded half up in a unit, by its whole part and what is left of it.
use Rattle.std.proofs.Common.{ℕ, ℤ, pos, negsuc, Bool, true, false, ◌≡◌, ◌+◌, ◌*◌, ◌/◌, ◌<◌, ◌≤◌, ◌^◌, ◌+ℤ◌, ◌*ℤ◌, ◌≤ℤ◌, ◌<ℤ◌, arith, refl, sym, subst, FitsSigned}
use Rattle.std.specs.Prelude.{if◌then◌else◌, int_le}
use Rattle.std.specs.Int.{int_div_euclid, int_rem_euclid, w32, w128}
use Rattle.std.proofs.lemmas.Int.{ints}
use Rattle.std.proofs.Math.Nat.{div-add-mod', mul-le-mul, mul-le-mul_right}
use Rattle.fix_span.specs.declared.frac.Frac.{Frac}
use Rattle.fix_span.specs.Frac.{CanRound, half_up, whole_part, is_past_half, half_of_unit}
use Rattle.fix_span.specs.IntLaws.{add-*ℤ, times-times, times_le}
use Rattle.fix_span.specs.RoundingLaws.{floor_at_most, floor_above, at_most_floor}

-- a number is its floor's multiple and a rest from 0 to below the divisor
pub rest_is : (a : ℤ) (d : ℕ) → 0 < d → a ≡ int_div_euclid a (pos d) *ℤ pos d +ℤ int_rem_euclid a (pos d)
rest_is (pos a) d some = omega (arith, ints, div-add-mod' a d)
rest_is (negsuc a) d some = omega (arith, ints, div-add-mod' a d)

pub rest_range : (a : ℤ) (d : ℕ) → 0 < d → (pos 0 ≤ℤ int_rem_euclid a (pos d)) × (int_rem_euclid a (pos d) <ℤ pos d)
rest_range (pos a) d some = (omega (arith, ints), omega (arith, ints))
rest_range (negsuc a) d some = (omega (arith, ints), omega (arith, ints))

-- n is q d and a rest r whose double is h d or more and less than (h + 1) d; c is half of u + h, rounded down
nested_least : (n q r w : ℤ) (u d h c : ℕ) → n ≡ q *ℤ pos d +ℤ r → pos (h * d) ≤ℤ (pos 2 *ℤ r) → 2 * c ≤ u + h
    → (w *ℤ pos u) ≤ℤ (q +ℤ pos c) → (w *ℤ pos (2 * u * d)) ≤ℤ (n *ℤ pos 2 +ℤ pos (u * d))
nested_least n q r w u d h c is rest half below =
    let scaled : ((w *ℤ pos u) *ℤ pos d) ≤ℤ ((q +ℤ pos c) *ℤ pos d) = times_le (w *ℤ pos u) (q +ℤ pos c) d below in
    let left : (w *ℤ pos u) *ℤ pos d ≡ w *ℤ pos (u * d) = times-times w u d in
    let right : (q +ℤ pos c) *ℤ pos d ≡ q *ℤ pos d +ℤ pos (c * d) = add-*ℤ q (pos c) (pos d) in
    let halves : 2 * c * d ≤ (u + h) * d = mul-le-mul_right d half in
    omega (arith, ints, scaled, left, right, halves)

nested_greatest : (n q r w : ℤ) (u d h c : ℕ) → n ≡ q *ℤ pos d +ℤ r → (pos 2 *ℤ r) <ℤ pos ((h + 1) * d) → u + h ≤ 2 * c + 1
    → (q +ℤ pos c) <ℤ (w *ℤ pos u +ℤ pos u) → (n *ℤ pos 2 +ℤ pos (u * d)) <ℤ (w *ℤ pos (2 * u * d) +ℤ pos (2 * u * d))
nested_greatest n q r w u d h c is rest half above =
    let next : (q +ℤ pos (c + 1)) ≤ℤ (w *ℤ pos u +ℤ pos u) = omega (arith, ints) in
    let scaled : ((q +ℤ pos (c + 1)) *ℤ pos d) ≤ℤ ((w *ℤ pos u +ℤ pos u) *ℤ pos d) = times_le (q +ℤ pos (c + 1)) (w *ℤ pos u +ℤ pos u) d next in
    let left : (q +ℤ pos (c + 1)) *ℤ pos d ≡ q *ℤ pos d +ℤ pos ((c + 1) * d) = add-*ℤ q (pos (c + 1)) (pos d) in
    let right : (w *ℤ pos u +ℤ pos u) *ℤ pos d ≡ (w *ℤ pos u) *ℤ pos d +ℤ pos (u * d) = add-*ℤ (w *ℤ pos u) (pos u) (pos d) in
    let regrouped : (w *ℤ pos u) *ℤ pos d ≡ w *ℤ pos (u * d) = times-times w u d in
    let halves : (u + h) * d ≤ (2 * c + 1) * d = mul-le-mul_right d half in
    omega (arith, ints, scaled, left, right, regrouped, halves)

nested : (n q r w : ℤ) (u d h c : ℕ) → 0 < u → 0 < d → n ≡ q *ℤ pos d +ℤ r → pos (h * d) ≤ℤ (pos 2 *ℤ r)
    → (pos 2 *ℤ r) <ℤ pos ((h + 1) * d) → 2 * c ≤ u + h → u + h ≤ 2 * c + 1 → (w *ℤ pos u) ≤ℤ (q +ℤ pos c)
    → (q +ℤ pos c) <ℤ (w *ℤ pos u +ℤ pos u) → w ≡ int_div_euclid (n *ℤ pos 2 +ℤ pos (u * d)) (pos (2 * u * d))
nested n q r w u d h c some_unit some is low high half half' below above =
    let a : ℤ = n *ℤ pos 2 +ℤ pos (u * d) in
    let m : ℕ = 2 * u * d in
    let step : 1 * 1 ≤ u * d = mul-le-mul some_unit some in
    let some_m : 0 < m = omega (arith, step) in
    let v : ℤ = int_div_euclid a (pos m) in
    let first : w ≤ℤ v = at_most_floor w v a m (nested_least n q r w u d h c is low half below) (floor_above a m some_m) in
    let second : v ≤ℤ w = at_most_floor v w a m (floor_at_most a m some_m) (nested_greatest n q r w u d h c is high half' above) in
    omega (arith, ints, first, second)

nested_floor : (n d : ℤ) (u : ℕ) (more : Bool) → 0 < u → pos 0 <ℤ d → int_le d (pos 2 *ℤ int_rem_euclid n d) ≡ more
    → int_div_euclid (int_div_euclid n d +ℤ pos ((u + (if more then 1 else 0)) / 2)) (pos u)
    ≡ int_div_euclid (n *ℤ pos 2 +ℤ pos u *ℤ d) (pos (2 * u) *ℤ d)
nested_floor n (pos d) u true some_unit positive e =
    let some : 0 < d = omega (arith, ints) in
    let range = rest_range n d some in
    let a : ℤ = int_div_euclid n (pos d) +ℤ pos ((u + 1) / 2) in
    nested n (int_div_euclid n (pos d)) (int_rem_euclid n (pos d)) (int_div_euclid a (pos u)) u d 1 ((u + 1) / 2) some_unit some (rest_is n d some)
    (omega (arith, ints, e)) (omega (arith, ints, range.1)) (omega arith) (omega arith) (floor_at_most a u some_unit) (floor_above a u some_unit)
nested_floor n (pos d) u false some_unit positive e =
    let some : 0 < d = omega (arith, ints) in
    let range = rest_range n d some in
    let a : ℤ = int_div_euclid n (pos d) +ℤ pos ((u + 0) / 2) in
    nested n (int_div_euclid n (pos d)) (int_rem_euclid n (pos d)) (int_div_euclid a (pos u)) u d 0 ((u + 0) / 2) some_unit some (rest_is n d some)
    (omega (arith, ints, range.0)) (omega (arith, ints, e)) (omega arith) (omega arith) (floor_at_most a u some_unit) (floor_above a u some_unit)
nested_floor n (negsuc d) u more some_unit positive e = absurd (omega (arith, ints))

-- what the code computes
pub half_up-nested : (x : Frac) (unit : ℕ) → 0 < unit → pos 0 <ℤ x.den
    → int_div_euclid (whole_part x +ℤ pos (half_of_unit x unit)) (pos unit) ≡ half_up x unit
half_up-nested x unit some positive = nested_floor x.num x.den unit (is_past_half x) some positive refl

-- a number whose quotient by a unit of 32 bits fits 32 bits fits 128
fits_dividend : (a : ℤ) (u : ℕ) → 0 < u → u < 2 ^ 32 → FitsSigned w32 (int_div_euclid a (pos u)) → FitsSigned w128 a
fits_dividend a u some few fits =
    let w : ℤ = int_div_euclid a (pos u) in
    let low : (negsuc (2 ^ 31) *ℤ pos u) ≤ℤ (w *ℤ pos u) = times_le (negsuc (2 ^ 31)) w u (omega (arith, ints, fits)) in
    let high : (w *ℤ pos u) ≤ℤ (pos (2 ^ 31) *ℤ pos u) = times_le w (pos (2 ^ 31)) u (omega (arith, ints, fits)) in
    omega (arith, ints, low, high, floor_at_most a u some, floor_above a u some)

pub dividend_fits : (x : Frac) (unit : ℕ) → unit < 2 ^ 32 → CanRound x unit → FitsSigned w128 (whole_part x +ℤ pos (half_of_unit x unit))
dividend_fits x unit few h =
    fits_dividend (whole_part x +ℤ pos (half_of_unit x unit)) unit h.some_unit few
    (subst (λ z. FitsSigned w32 z) (sym (half_up-nested x unit h.some_unit h.positive)) h.fits)
