-- The last point not right of 0 is the first point, and the last one not right of 1 is the last: with the slack of ever finer scales
-- nothing is left but 0 and 1.
use Rattle.std.proofs.Common.{◌≡◌, ℕ, zero, suc, ◌+◌, ◌-◌, ◌*◌, ◌^◌, ◌<◌, ◌≤◌, ℤ, pos, ◌+ℤ◌, ◌*ℤ◌, ◌≤ℤ◌, ◌<ℤ◌, Bool, true, nat_abs, arith, refl, ap, le-leb, mul-le-mul_right, mul-pos, pow-suc}
use Rattle.std.proofs.lemmas.Bool.{lt-leb}
use Rattle.std.proofs.lemmas.Int.{ints, by_lt_z}
use borrow.Author.Differences.{up, down, le_out}
use Rattle.page_model.specs.Curve.{column_at, curve_height, height_at, is_left, point_of}
use Rattle.page_model.specs.Fraction.{Fraction}
use Rattle.page_model.specs.Least.{greatest_up_to}
use Rattle.srgb_luma.proofs.GreatestLemmas.{greatest_up_to-last}
use Rattle.curve_laws.specs.EndLaws.{CurveEnds}
use Rattle.curve_laws.proofs.SignedLemmas.{times_le}

-- the limit is the greatest where it passes
greatest-top : (m : ℕ) (test : ℕ → Bool) → test m ≡ true → greatest_up_to m test ≡ m
unfolding greatest_up_to
greatest-top zero test passes = refl
greatest-top (suc m) test passes = rw passes

-- the columns at both ends
column-begins : (x1 x2 i den : ℕ) → column_at x1 x2 i 0 * den ≤ 0
column-begins x1 x2 i den = omega arith

column-above : (x1 x2 i j den : ℕ) → 0 < j → 0 < den → 0 < column_at x1 x2 i j * den
column-above x1 x2 i j den some more =
    let square = mul-pos some some in
    let cube = mul-pos square some in
    mul-pos (at_least (x1 * (3 * (j * (i * i)))) (x2 * (3 * (j * j * i))) (j * j * j) cube) more
  where
    at_least : (p q r : ℕ) → 0 < r → 0 < p + q + 1000 * r
    at_least p q r h = omega arith

column-ends : (x1 x2 j den : ℕ) → column_at x1 x2 0 j * den ≡ den * (1000 * (j * j * j))
column-ends x1 x2 j den = omega arith

point-begins : (x1 x2 : ℕ) (at : Fraction) (m : ℕ) → at.num ≡ 0 → 0 < at.den → point_of x1 x2 at m ≡ 0
unfolding point_of
point-begins x1 x2 at m e some =
    greatest_up_to-last m 0 (is_left x1 x2 at m) (omega arith)
    (le-leb (column_at x1 x2 (m - 0) 0 * at.den) (at.num * (1000 * (m * m * m))) (let h = column-begins x1 x2 (m - 0) at.den in omega arith))
    (λ j above. lt-leb (column_at x1 x2 (m - j) j * at.den) (at.num * (1000 * (m * m * m)))
    (rw e (let h = column-above x1 x2 (m - j) j at.den above some in omega arith)))

point-ends : (x1 x2 : ℕ) (at : Fraction) (m : ℕ) → at.num ≡ at.den → point_of x1 x2 at m ≡ m
unfolding point_of
point-ends x1 x2 at m e =
    let none : m - m ≡ 0 = omega arith in
    greatest-top m (is_left x1 x2 at m)
    (le-leb (column_at x1 x2 (m - m) m * at.den) (at.num * (1000 * (m * m * m)))
    (rw (none, e) (let h = column-ends x1 x2 m at.den in omega arith)))

-- the heights there
height-begins : (y1 y2 : ℤ) (i : ℕ) → height_at y1 y2 i 0 ≡ pos 0
height-begins y1 y2 i = omega (arith, ints)

height-ends : (y1 y2 : ℤ) (j : ℕ) → height_at y1 y2 0 j ≡ pos (1000 * (j * j * j))
height-ends y1 y2 j = omega (arith, ints)

curve-begins : (x1 : ℕ) (y1 : ℤ) (x2 : ℕ) (y2 : ℤ) (at : Fraction) (m : ℕ) → at.num ≡ 0 → 0 < at.den → curve_height x1 y1 x2 y2 at m ≡ pos 0
curve-begins x1 y1 x2 y2 at m e some = rw (point-begins x1 x2 at m e some) (height-begins y1 y2 (m - 0))

curve-ends : (x1 : ℕ) (y1 : ℤ) (x2 : ℕ) (y2 : ℤ) (at : Fraction) (m : ℕ) → at.num ≡ at.den → curve_height x1 y1 x2 y2 at m ≡ pos (1000 * (m * m * m))
curve-ends x1 y1 x2 y2 at m e =
    let none : m - m ≡ 0 = omega arith in
    rw (point-ends x1 x2 at m e, none) (height-ends y1 y2 m)

-- a number is below its power of two
below_power : (n : ℕ) → n < 2 ^ n
below_power zero = omega arith
below_power (suc n) = let h = below_power n in rw pow-suc (omega arith)

-- what is reached with the slack of each scale is reached
no_slack : (c b : ℤ) (t m : ℕ) → c <ℤ b → 24 * t < m → (b *ℤ pos (1000 * (m * m * m))) ≤ℤ (c *ℤ pos (1000 * (m * m * m)) +ℤ pos (24000 * t * (m * m))) → ⊥
no_slack c b t m above fine reached =
    let next : (c +ℤ pos 1) ≤ℤ b = omega (arith, ints) in
    let more = mul-le-mul_right (1000 * (m * m * m)) (le_out (c +ℤ pos 1) b next) in
    let cubes = mul-le-mul_right (1000 * (m * m)) fine in
    let some : 0 < m = omega arith in
    let square = mul-pos some some in
    clash c b t m (step c m) more cubes square reached
  where
    step : (c : ℤ) (m : ℕ) → (up (c +ℤ pos 1) + down c) * (1000 * (m * m * m)) ≡ (down (c +ℤ pos 1) + up c + 1) * (1000 * (m * m * m))
    step c m = let e : up (c +ℤ pos 1) + down c ≡ down (c +ℤ pos 1) + up c + 1 = omega (arith, ints) in ap (λ (n : ℕ). n * (1000 * (m * m * m))) e

    clash :
        (c b : ℤ) (t m : ℕ) → (up (c +ℤ pos 1) + down c) * (1000 * (m * m * m)) ≡ (down (c +ℤ pos 1) + up c + 1) * (1000 * (m * m * m))
        → (up (c +ℤ pos 1) + down b) * (1000 * (m * m * m)) ≤ (up b + down (c +ℤ pos 1)) * (1000 * (m * m * m))
        → suc (24 * t) * (1000 * (m * m)) ≤ m * (1000 * (m * m)) → 0 < m * m
        → (b *ℤ pos (1000 * (m * m * m))) ≤ℤ (c *ℤ pos (1000 * (m * m * m)) +ℤ pos (24000 * t * (m * m))) → ⊥
    clash c b t m e more cubes square reached = omega (arith, ints)

with_slack : (c b : ℤ) (t m : ℕ) → b ≤ℤ c → (b *ℤ pos (1000 * (m * m * m))) ≤ℤ (c *ℤ pos (1000 * (m * m * m)) +ℤ pos (24000 * t * (m * m)))
with_slack c b t m below = let h = times_le b c (1000 * (m * m * m)) below in omega (arith, ints)

settles :
    (c b : ℤ) (t : ℕ) → ((e : ℕ) → (b *ℤ pos (1000 * (2 ^ e * 2 ^ e * 2 ^ e))) ≤ℤ (c *ℤ pos (1000 * (2 ^ e * 2 ^ e * 2 ^ e)) +ℤ pos (24000 * t * (2 ^ e * 2 ^ e)))) → b ≤ℤ c
settles c b t reached =
    by_lt_z c b (λ above. absurd (no_slack c b t (2 ^ (24 * t)) above (below_power (24 * t)) (reached (24 * t)))) (λ below. below)

-- nothing times anything
begins-slack : (a : ℤ) (c s : ℕ) → a *ℤ pos 0 +ℤ pos s ≡ pos 0 *ℤ pos c +ℤ pos s
begins-slack a c s = omega (arith, ints)

pub curve-ends_law : CurveEnds
curve-ends_law = record {
  begins = λ x1 y1 x2 y2 at a b e some. (
    λ reached. settles (pos 0) b (nat_abs a) (λ n.
        let m : ℕ = 2 ^ n in
        let given = rw (curve-begins x1 y1 x2 y2 at m e some, begins-slack a (1000 * (m * m * m)) (24000 * nat_abs a * (m * m))) at (reached n) in given),
    λ below n.
        let m : ℕ = 2 ^ n in
        rw (curve-begins x1 y1 x2 y2 at m e some, begins-slack a (1000 * (m * m * m)) (24000 * nat_abs a * (m * m))) (with_slack (pos 0) b (nat_abs a) m below),
  );
  ends = λ x1 y1 x2 y2 at a b e some. (
    λ reached. settles a b (nat_abs a) (λ n. rw (curve-ends x1 y1 x2 y2 at (2 ^ n) e) at (reached n)),
    λ below n. rw (curve-ends x1 y1 x2 y2 at (2 ^ n) e) (with_slack a b (nat_abs a) (2 ^ n) below),
  );
}
