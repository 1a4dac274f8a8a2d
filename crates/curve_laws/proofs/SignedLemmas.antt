-- Products of signed numbers, as differences of whole ones: what `omega` needs to be told of them.
use Rattle.std.proofs.Common.{◌≡◌, ℕ, suc, ◌+◌, ◌*◌, ◌≤◌, ap, arith}
use Rattle.std.specs.Prelude.{ℤ, pos, negsuc, ◌+ℤ◌, ◌*ℤ◌, ◌≤ℤ◌, nat_abs}
use Rattle.std.proofs.lemmas.Int.{ints}
use Rattle.std.proofs.Math.Nat.{mul-le-mul_right}
use borrow.Author.Differences.{up, down}

-- a signed number times the difference of p and q
pub product_is : (a h : ℤ) (p q : ℕ) → h +ℤ pos q ≡ pos p
    → a *ℤ h +ℤ pos (up a * q + down a * p) ≡ pos (up a * p + down a * q)
product_is (pos a) (pos h) p q e =
    let same : h + q ≡ p = omega (arith, ints, e) in
    let times = ap (λ m. a * m) same in
    omega (arith, ints, times)
product_is (pos a) (negsuc h) p q e =
    let same : suc h + p ≡ q = omega (arith, ints, e) in
    let times = ap (λ m. a * m) same in
    omega (arith, ints, times)
product_is (negsuc a) (pos h) p q e =
    let same : h + q ≡ p = omega (arith, ints, e) in
    let times = ap (λ m. suc a * m) same in
    omega (arith, ints, times)
product_is (negsuc a) (negsuc h) p q e =
    let same : suc h + p ≡ q = omega (arith, ints, e) in
    let times = ap (λ m. suc a * m) same in
    omega (arith, ints, times)

-- a signed number times a whole one
pub times_is : (b : ℤ) (k : ℕ) → b *ℤ pos k +ℤ pos (down b * k) ≡ pos (up b * k)
times_is (pos b) k = omega (arith, ints)
times_is (negsuc b) k = omega (arith, ints)

pub abs_is : (a : ℤ) → nat_abs a ≡ up a + down a
abs_is (pos a) = omega arith
abs_is (negsuc a) = omega arith

-- multiplying by a whole number keeps the order
pub times_le : (less b : ℤ) (k : ℕ) → less ≤ℤ b → (less *ℤ pos k) ≤ℤ (b *ℤ pos k)
times_le less b k h =
    let order : up less + down b ≤ up b + down less = omega (arith, ints, h) in
    let first = times_is less k in
    let second = times_is b k in
    let more = times (up less) (down b) (up b) (down less) k order in
    omega (arith, ints, first, second, more) where
      times : (a b c d k : ℕ) → a + b ≤ c + d → a * k + b * k ≤ c * k + d * k
      times a b c d k h = let more = mul-le-mul_right k h in omega (arith, more)
