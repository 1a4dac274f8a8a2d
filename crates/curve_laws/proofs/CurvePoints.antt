-- The columns of a curve never fall, and the point of an input at a scale agrees with that at a finer one: where the finer scale
-- has r points for each, it is one of the r from the coarser point on.
use Rattle.std.proofs.Common.{◌≡◌, ℕ, zero, suc, ◌+◌, ◌-◌, ◌*◌, ◌<◌, ◌≤◌, true, arith, inl, inr}
use Rattle.std.proofs.lemmas.Bool.{cases_lt, leb-true, le-leb}
use Rattle.std.proofs.Math.Nat.{mul-le-mul_left, mul-le-mul_right, le_of_mul-le-mul_left}
use Rattle.page_model.specs.Curve.{column_at, is_left, point_of}
use Rattle.page_model.specs.Fraction.{Fraction}
use Rattle.srgb_luma.proofs.GreatestLemmas.{greatest_up_to_le}
use Rattle.curve_laws.proofs.GreatestLemmas.{greatest-passes, greatest-most, rises}

-- twice a product is at most the sum of the squares
twice-product : (i j : ℕ) → 2 * (i * j) ≤ i * i + j * j
twice-product i j =
    elim (cases_lt i j) [
      | inl less ↦ apart i j (j - i) (omega arith)
      | inr more ↦ let h = apart j i (i - j) (omega arith) in omega (arith, h)
    ] where
      apart : (i j k : ℕ) → j ≡ i + k → 2 * (i * j) ≤ i * i + j * j
      apart i j k e = rw e (omega arith)

-- a step of the column, where the first control point is not right of the second
column-step_ordered : (x1 x2 i j : ℕ) → x1 ≤ x2 → x2 ≤ 1000 → column_at x1 x2 (suc i) j ≤ column_at x1 x2 i (suc j)
column-step_ordered x1 x2 i j ordered within =
    let first = mul-le-mul_right (i * j) ordered in
    let second = mul-le-mul_right (j * j) within in
    let x1_within : x1 ≤ 1000 = omega arith in
    let third = mul-le-mul_right j x1_within in
    omega (arith, first, second, third)

-- and where it is right of it by d
column-step_crossed : (d x2 i j : ℕ) → x2 + d ≤ 1000 → column_at (x2 + d) x2 (suc i) j ≤ column_at (x2 + d) x2 i (suc j)
column-step_crossed d x2 i j within =
    let first = mul-le-mul_left d (twice-product i j) in
    let second = mul-le-mul_right (j * j) within in
    let third = mul-le-mul_right j within in
    omega (arith, first, second, third)

pub column-step : (x1 x2 i j : ℕ) → x1 ≤ 1000 → x2 ≤ 1000 → column_at x1 x2 (suc i) j ≤ column_at x1 x2 i (suc j)
column-step x1 x2 i j first second =
    elim (cases_lt x2 x1) [
      | inl crossed ↦
          let apart : x1 ≡ x2 + (x1 - x2) = omega arith in
          rw apart (column-step_crossed (x1 - x2) x2 i j (omega arith))
      | inr ordered ↦ column-step_ordered x1 x2 i j ordered second
    ]

-- the column of point j of m
abbrev pub column_of : ℕ → ℕ → ℕ → ℕ → ℕ
column_of x1 x2 m j = column_at x1 x2 (m - j) j

column_of-step : (x1 x2 m j : ℕ) → x1 ≤ 1000 → x2 ≤ 1000 → j < m → column_of x1 x2 m j ≤ column_of x1 x2 m (suc j)
column_of-step x1 x2 m j first second below =
    let one_less : m - j ≡ suc (m - suc j) = omega arith in
    rw one_less (column-step x1 x2 (m - suc j) j first second)

-- columns never fall
pub column_of-mono : (x1 x2 m j k : ℕ) → x1 ≤ 1000 → x2 ≤ 1000 → j ≤ k → k ≤ m → column_of x1 x2 m j ≤ column_of x1 x2 m k
column_of-mono x1 x2 m j k first second ordered within =
    let k_is : k ≡ j + (k - j) = omega arith in
    rw k_is (rises (column_of x1 x2 m) m j (k - j) (λ p below. column_of-step x1 x2 m p first second below) (omega arith))

-- a curve at r times the scale
column_at-scaled : (x1 x2 r i j : ℕ) → column_at x1 x2 (r * i) (r * j) ≡ r * r * r * column_at x1 x2 i j
column_at-scaled x1 x2 r i j = omega arith

-- points that are not right of the input
left-start : (x1 x2 : ℕ) (at : Fraction) (m : ℕ) → is_left x1 x2 at m 0 ≡ true
left-start x1 x2 at m = le-leb (column_at x1 x2 (m - 0) 0 * at.den) (at.num * (1000 * (m * m * m))) (omega arith)

left-before : (x1 x2 : ℕ) (at : Fraction) (m j k : ℕ) → x1 ≤ 1000 → x2 ≤ 1000 → j ≤ k → k ≤ m
    → is_left x1 x2 at m k ≡ true → is_left x1 x2 at m j ≡ true
left-before x1 x2 at m j k first second ordered within left =
    let passes = leb-true (column_of x1 x2 m k * at.den) (at.num * (1000 * (m * m * m))) left in
    let less = mul-le-mul_right at.den (column_of-mono x1 x2 m j k first second ordered within) in
    le-leb (column_of x1 x2 m j * at.den) (at.num * (1000 * (m * m * m))) (below (column_of x1 x2 m j * at.den) (column_of x1 x2 m k * at.den) (at.num * (1000 * (m * m * m))) less passes) where
      below : (a b c : ℕ) → a ≤ b → b ≤ c → a ≤ c
      below a b c p q = omega arith

-- one of them at a finer scale
scaled : (c r den num m : ℕ) → c * den ≤ num * (1000 * (m * m * m))
    → r * r * r * c * den ≤ num * (1000 * (r * m * (r * m) * (r * m)))
scaled c r den num m h = let more = mul-le-mul_left (r * r * r) h in omega (arith, more)

unscaled : (c r den num m : ℕ) → 1 ≤ r → r * r * r * c * den ≤ num * (1000 * (r * m * (r * m) * (r * m)))
    → c * den ≤ num * (1000 * (m * m * m))
unscaled c r den num m some h =
    le_of_mul-le-mul_left {k = r * r * r} (omega (arith, h)) (cube r some) where
      cube : (r : ℕ) → 1 ≤ r → 0 < r * r * r
      cube zero h = absurd (omega arith)
      cube (suc n) h = omega arith

-- a difference of multiples is a multiple of the difference
pub times-sub : (r m j : ℕ) → r * m - r * j ≡ r * (m - j)
times-sub r m j =
    elim (cases_lt m j) [
      | inl less ↦
          let none : m - j ≡ 0 = omega arith in
          let more = mul-le-mul_left r less in
          rw none (omega (arith, more))
      | inr more ↦ split r m j (m - j) (omega arith)
    ] where
      split : (r m j k : ℕ) → m ≡ j + k → r * m - r * j ≡ r * k
      split r m j k e = rw e (omega arith)

column_of-scaled : (x1 x2 r m j : ℕ) → column_of x1 x2 (r * m) (r * j) ≡ r * r * r * column_of x1 x2 m j
column_of-scaled x1 x2 r m j =
    let less : r * m - r * j ≡ r * (m - j) = times-sub r m j in
    rw less (column_at-scaled x1 x2 r (m - j) j)

pub left-finer : (x1 x2 : ℕ) (at : Fraction) (r m j : ℕ) → is_left x1 x2 at m j ≡ true → is_left x1 x2 at (r * m) (r * j) ≡ true
left-finer x1 x2 at r m j left =
    let passes = leb-true (column_of x1 x2 m j * at.den) (at.num * (1000 * (m * m * m))) left in
    let same = column_of-scaled x1 x2 r m j in
    le-leb (column_of x1 x2 (r * m) (r * j) * at.den) (at.num * (1000 * (r * m * (r * m) * (r * m))))
    (rw same (scaled (column_of x1 x2 m j) r at.den at.num m passes))

pub left-coarser : (x1 x2 : ℕ) (at : Fraction) (r m j : ℕ) → 1 ≤ r → is_left x1 x2 at (r * m) (r * j) ≡ true
    → is_left x1 x2 at m j ≡ true
left-coarser x1 x2 at r m j some left =
    let passes = leb-true (column_of x1 x2 (r * m) (r * j) * at.den) (at.num * (1000 * (r * m * (r * m) * (r * m)))) left in
    let same = column_of-scaled x1 x2 r m j in
    le-leb (column_of x1 x2 m j * at.den) (at.num * (1000 * (m * m * m)))
    (unscaled (column_of x1 x2 m j) r at.den at.num m some (rw same at passes))

-- the point of an input is up to the scale, is not right of the input, and is the last such point
pub point_of_le : (x1 x2 : ℕ) (at : Fraction) (m : ℕ) → point_of x1 x2 at m ≤ m
unfolding point_of
point_of_le x1 x2 at m = greatest_up_to_le m (is_left x1 x2 at m)

pub point_of-left : (x1 x2 : ℕ) (at : Fraction) (m : ℕ) → is_left x1 x2 at m (point_of x1 x2 at m) ≡ true
unfolding point_of
point_of-left x1 x2 at m = greatest-passes m (is_left x1 x2 at m) (left-start x1 x2 at m)

pub point_of-last : (x1 x2 : ℕ) (at : Fraction) (m j : ℕ) → j ≤ m → is_left x1 x2 at m j ≡ true → j ≤ point_of x1 x2 at m
unfolding point_of
point_of-last x1 x2 at m j within left = greatest-most m j (is_left x1 x2 at m) within left

-- the finer point is not before the coarser one
pub point_of-from : (x1 x2 : ℕ) (at : Fraction) (r m : ℕ) → r * point_of x1 x2 at m ≤ point_of x1 x2 at (r * m)
point_of-from x1 x2 at r m =
    point_of-last x1 x2 at (r * m) (r * point_of x1 x2 at m) (mul-le-mul_left r (point_of_le x1 x2 at m))
    (left-finer x1 x2 at r m (point_of x1 x2 at m) (point_of-left x1 x2 at m))

-- and is before the next of the coarser scale
pub point_of-before : (x1 x2 : ℕ) (at : Fraction) (r m : ℕ) → x1 ≤ 1000 → x2 ≤ 1000 → 1 ≤ r
    → point_of x1 x2 at (r * m) < r * suc (point_of x1 x2 at m)
point_of-before x1 x2 at r m first second some =
    elim (cases_lt (point_of x1 x2 at (r * m)) (r * suc (point_of x1 x2 at m))) [
      | inl before ↦ before
      | inr after ↦
          let within : r * suc (point_of x1 x2 at m) ≤ r * m = omega (arith, after, point_of_le x1 x2 at (r * m)) in
          let next : suc (point_of x1 x2 at m) ≤ m = le_of_mul-le-mul_left within some in
          let left = left-before x1 x2 at (r * m) (r * suc (point_of x1 x2 at m)) (point_of x1 x2 at (r * m)) first second after (point_of_le x1 x2 at (r * m)) (point_of-left x1 x2 at (r * m)) in
          let last = point_of-last x1 x2 at m (suc (point_of x1 x2 at m)) next (left-coarser x1 x2 at r m (suc (point_of x1 x2 at m)) some left) in
          absurd (omega (arith, last))
    ]

-- a point that isn't right of the input, before one that is, is the last such point
pub point_of-is : (x1 x2 : ℕ) (at : Fraction) (m j : ℕ) → x1 ≤ 1000 → x2 ≤ 1000 → j < m → is_left x1 x2 at m j ≡ true
    → (is_left x1 x2 at m (suc j) ≡ true → ⊥) → point_of x1 x2 at m ≡ j
point_of-is x1 x2 at m j first second below left right =
    elim (cases_lt j (point_of x1 x2 at m)) [
      | inl after ↦ absurd (right (left-before x1 x2 at m (suc j) (point_of x1 x2 at m) first second after (point_of_le x1 x2 at m) (point_of-left x1 x2 at m)))
      | inr before ↦ let last = point_of-last x1 x2 at m j (omega (arith, below)) left in omega (arith, before, last)
    ]
