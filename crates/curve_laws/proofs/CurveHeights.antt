-- The heights of a curve as differences of whole numbers, and how far they are apart: at scale M a step of one point changes the
-- height by at most 24 / M.
use Rattle.std.proofs.Common.{◌≡◌, ℕ, suc, ◌+◌, ◌-◌, ◌*◌, ◌<◌, ◌≤◌, ap, arith}
use Rattle.std.specs.Prelude.{ℤ, pos, negsuc, ◌+ℤ◌, ◌*ℤ◌}
use Rattle.std.proofs.lemmas.Int.{ints}
use Rattle.std.proofs.Math.Nat.{mul-le-mul_right}
use Rattle.page_model.specs.Curve.{first_term, second_term, last_term, height_at}
use Rattle.curve_laws.proofs.CurvePoints.{times-sub}
use Rattle.curve_laws.proofs.GreatestLemmas.{grows}

-- the height with both control points raised by 4000, and what that adds
abbrev pub raised : ℕ → ℕ → ℕ → ℕ → ℕ
raised w1 w2 i j = w1 * first_term i j + w2 * second_term i j + last_term j

abbrev pub added : ℕ → ℕ → ℕ
added i j = 4000 * first_term i j + 4000 * second_term i j

raised_term : (y : ℤ) (w t : ℕ) → y +ℤ pos 4000 ≡ pos w → y *ℤ pos t +ℤ pos (4000 * t) ≡ pos (w * t)
raised_term (pos y) w t e =
    let same : y + 4000 ≡ w = omega (arith, ints, e) in
    let times = ap (λ m. m * t) same in
    omega (arith, ints, times)
raised_term (negsuc y) w t e =
    let same : suc y + w ≡ 4000 = omega (arith, ints, e) in
    let times = ap (λ m. m * t) same in
    omega (arith, ints, times)

pub height_is : (y1 y2 : ℤ) (w1 w2 i j : ℕ) → y1 +ℤ pos 4000 ≡ pos w1 → y2 +ℤ pos 4000 ≡ pos w2
    → height_at y1 y2 i j +ℤ pos (added i j) ≡ pos (raised w1 w2 i j)
height_is y1 y2 w1 w2 i j first second =
    sum (y1 *ℤ pos (first_term i j)) (y2 *ℤ pos (second_term i j)) (last_term j) (4000 * first_term i j)
    (4000 * second_term i j) (w1 * first_term i j) (w2 * second_term i j)
    (raised_term y1 w1 (first_term i j) first) (raised_term y2 w2 (second_term i j) second) where
      sum : (a b : ℤ) (c p q r s : ℕ) → a +ℤ pos p ≡ pos r → b +ℤ pos q ≡ pos s
          → a +ℤ b +ℤ pos c +ℤ pos (p + q) ≡ pos (r + s + c)
      sum a b c p q r s first second = omega (arith, ints, first, second)

-- a step up or down is at most 24000 M^2, in parts of 1000 M^3
pub raised-step : (w1 w2 i j : ℕ) → w1 ≤ 8000 → w2 ≤ 8000
    → raised w1 w2 i (suc j) + added (suc i) j
    ≤ raised w1 w2 (suc i) j + added i (suc j) + 24000 * (suc (i + j) * suc (i + j))
raised-step w1 w2 i j first second =
    omega (arith, mul-le-mul_right (i * i) first, mul-le-mul_right (i * j) second, mul-le-mul_right i second)

pub fallen-step : (w1 w2 i j : ℕ) → w1 ≤ 8000 → w2 ≤ 8000
    → added i (suc j) + raised w1 w2 (suc i) j
    ≤ added (suc i) j + raised w1 w2 i (suc j) + 24000 * (suc (i + j) * suc (i + j))
fallen-step w1 w2 i j first second =
    omega (arith, mul-le-mul_right (i * j) first, mul-le-mul_right j first, mul-le-mul_right (j * j) second)

-- both at point j of m
abbrev pub raised_of : ℕ → ℕ → ℕ → ℕ → ℕ
raised_of w1 w2 m j = raised w1 w2 (m - j) j

abbrev pub added_of : ℕ → ℕ → ℕ
added_of m j = added (m - j) j

raised_of-step : (w1 w2 m : ℕ) → w1 ≤ 8000 → w2 ≤ 8000 → (j : ℕ) → j < m
    → raised_of w1 w2 m (suc j) + added_of m j ≤ raised_of w1 w2 m j + added_of m (suc j) + 24000 * (m * m)
raised_of-step w1 w2 m first second j below =
    let one_less : m - j ≡ suc (m - suc j) = omega arith in
    let whole : suc (m - suc j + j) ≡ m = omega arith in
    let h = raised-step w1 w2 (m - suc j) j first second in
    rw one_less (rw whole at h)

fallen_of-step : (w1 w2 m : ℕ) → w1 ≤ 8000 → w2 ≤ 8000 → (j : ℕ) → j < m
    → added_of m (suc j) + raised_of w1 w2 m j ≤ added_of m j + raised_of w1 w2 m (suc j) + 24000 * (m * m)
fallen_of-step w1 w2 m first second j below =
    let one_less : m - j ≡ suc (m - suc j) = omega arith in
    let whole : suc (m - suc j + j) ≡ m = omega arith in
    let h = fallen-step w1 w2 (m - suc j) j first second in
    rw one_less (rw whole at h)

-- over n points, up and down
pub raised_of-grows : (w1 w2 m j n : ℕ) → w1 ≤ 8000 → w2 ≤ 8000 → j + n ≤ m
    → raised_of w1 w2 m (j + n) + added_of m j ≤ raised_of w1 w2 m j + added_of m (j + n) + n * (24000 * (m * m))
raised_of-grows w1 w2 m j n first second within =
    grows (raised_of w1 w2 m) (added_of m) m (24000 * (m * m)) j n (raised_of-step w1 w2 m first second) within

pub raised_of-falls : (w1 w2 m j n : ℕ) → w1 ≤ 8000 → w2 ≤ 8000 → j + n ≤ m
    → added_of m (j + n) + raised_of w1 w2 m j ≤ added_of m j + raised_of w1 w2 m (j + n) + n * (24000 * (m * m))
raised_of-falls w1 w2 m j n first second within =
    grows (added_of m) (raised_of w1 w2 m) m (24000 * (m * m)) j n (fallen_of-step w1 w2 m first second) within

-- a curve at r times the scale
raised-scaled : (w1 w2 r i j : ℕ) → raised w1 w2 (r * i) (r * j) ≡ r * r * r * raised w1 w2 i j
raised-scaled w1 w2 r i j = omega arith

added-scaled : (r i j : ℕ) → added (r * i) (r * j) ≡ r * r * r * added i j
added-scaled r i j = omega arith

pub raised_of-scaled : (w1 w2 r m j : ℕ) → raised_of w1 w2 (r * m) (r * j) ≡ r * r * r * raised_of w1 w2 m j
raised_of-scaled w1 w2 r m j = rw (times-sub r m j) (raised-scaled w1 w2 r (m - j) j)

pub added_of-scaled : (r m j : ℕ) → added_of (r * m) (r * j) ≡ r * r * r * added_of m j
added_of-scaled r m j = rw (times-sub r m j) (added-scaled r (m - j) j)

-- the point J of the scale r M lies n points behind r times the point j of the scale M: their heights differ by at most n steps
pub raised_of-near : (w1 w2 r m j n J : ℕ) → w1 ≤ 8000 → w2 ≤ 8000 → J ≡ r * j + n → J ≤ r * m
    → raised_of w1 w2 (r * m) J + r * r * r * added_of m j
    ≤ r * r * r * raised_of w1 w2 m j + added_of (r * m) J + n * (24000 * (r * m * (r * m)))
raised_of-near w1 w2 r m j n J first second place within =
    let h = raised_of-grows w1 w2 (r * m) (r * j) n first second (omega (arith, place, within)) in
    let scaled = rw (raised_of-scaled w1 w2 r m j, added_of-scaled r m j) at h in
    rw place scaled

pub added_of-near : (w1 w2 r m j n J : ℕ) → w1 ≤ 8000 → w2 ≤ 8000 → J ≡ r * j + n → J ≤ r * m
    → added_of (r * m) J + r * r * r * raised_of w1 w2 m j
    ≤ r * r * r * added_of m j + raised_of w1 w2 (r * m) J + n * (24000 * (r * m * (r * m)))
added_of-near w1 w2 r m j n J first second place within =
    let h = raised_of-falls w1 w2 (r * m) (r * j) n first second (omega (arith, place, within)) in
    let scaled = rw (raised_of-scaled w1 w2 r m j, added_of-scaled r m j) at h in
    rw place scaled
