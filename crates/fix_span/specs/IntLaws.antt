-- Lemmas on products of signed numbers, for the laws of `FracLaws`: they distribute over sums and differences, and factors may be
-- regrouped.
use Rattle.std.proofs.Common.{ℕ, ℤ, pos, negsuc, ◌≡◌, ◌+◌, ◌*◌, ◌<◌, ◌≤◌, ◌+ℤ◌, ◌-ℤ◌, ◌*ℤ◌, ◌≤ℤ◌, ◌<ℤ◌, arith, ap, ◌∙◌, sym}
use Rattle.std.proofs.lemmas.Int.{ints, by_lt_z}
use Rattle.std.proofs.Math.Nat.{mul-le-mul, mul-le-mul_right}
use borrow.Author.Differences.{up, down, sum_is_lem, product_is, same_in}

up-*ℤ : (x y : ℤ) → up (x *ℤ y) ≡ up x * up y + down x * down y
up-*ℤ x y = (product_is x y).0

down-*ℤ : (x y : ℤ) → down (x *ℤ y) ≡ up x * down y + down x * up y
down-*ℤ x y = (product_is x y).1

pub add-*ℤ : (x y z : ℤ) → (x +ℤ y) *ℤ z ≡ x *ℤ z +ℤ y *ℤ z
add-*ℤ x y z =
    let a : (up (x +ℤ y) + down x + down y) * up z ≡ (down (x +ℤ y) + up x + up y) * up z = ap (λ n. n * up z) (sum_is_lem x y) in
    let b : (up (x +ℤ y) + down x + down y) * down z ≡ (down (x +ℤ y) + up x + up y) * down z = ap (λ n. n * down z) (sum_is_lem x y) in
    let s : up (x *ℤ z +ℤ y *ℤ z) + down (x *ℤ z) + down (y *ℤ z) ≡ down (x *ℤ z +ℤ y *ℤ z) + up (x *ℤ z) + up (y *ℤ z) =
    sum_is_lem (x *ℤ z) (y *ℤ z) in
    same_in ((x +ℤ y) *ℤ z) (x *ℤ z +ℤ y *ℤ z)
    (omega (arith, a, b, s, up-*ℤ (x +ℤ y) z, down-*ℤ (x +ℤ y) z, up-*ℤ x z, down-*ℤ x z, up-*ℤ y z, down-*ℤ y z))

pub *ℤ_assoc : (x y z : ℤ) → (x *ℤ y) *ℤ z ≡ x *ℤ (y *ℤ z)
*ℤ_assoc x y z = same_in ((x *ℤ y) *ℤ z) (x *ℤ (y *ℤ z)) (simp (up-*ℤ, down-*ℤ) (omega arith))

-- a number times two natural ones
pub times-times : (z : ℤ) (m n : ℕ) → (z *ℤ pos m) *ℤ pos n ≡ z *ℤ pos (m * n)
times-times z m n = *ℤ_assoc z (pos m) (pos n)

-- the factors of two products change places
pub *ℤ-swap : (x y z w : ℤ) → (x *ℤ y) *ℤ (z *ℤ w) ≡ (x *ℤ z) *ℤ (y *ℤ w)
*ℤ-swap x y z w = same_in ((x *ℤ y) *ℤ (z *ℤ w)) ((x *ℤ z) *ℤ (y *ℤ w)) (simp (up-*ℤ, down-*ℤ) (omega arith))

-- a positive factor may be left out of a comparison
pub cancel_le : (x y : ℤ) (k : ℕ) → 0 < k → (x *ℤ pos k) ≤ℤ (y *ℤ pos k) → x ≤ℤ y
cancel_le x y k some h =
    by_lt_z y x
    (λ above.
    let gap : up y + down x + 1 ≤ up x + down y = omega (arith, ints) in
    let more : (up y + down x + 1) * k ≤ (up x + down y) * k = mul-le-mul_right k gap in
    omega (arith, ints, more, up-*ℤ x (pos k), down-*ℤ x (pos k), up-*ℤ y (pos k), down-*ℤ y (pos k)))
    (λ h. h)

pub sub-*ℤ : (x y z : ℤ) → (x -ℤ y) *ℤ z ≡ x *ℤ z -ℤ y *ℤ z
sub-*ℤ x y z =
    let whole : (x -ℤ y) +ℤ y ≡ x = omega (arith, ints) in
    let e : (x -ℤ y) *ℤ z +ℤ y *ℤ z ≡ x *ℤ z = sym (add-*ℤ (x -ℤ y) y z) ∙ ap (λ (w : ℤ). w *ℤ z) whole in
    omega (arith, ints, e)

-- the same, the first with the last
pub *ℤ-regroup : (x y z w : ℤ) → (x *ℤ y) *ℤ (z *ℤ w) ≡ (x *ℤ w) *ℤ (y *ℤ z)
*ℤ-regroup x y z w = same_in ((x *ℤ y) *ℤ (z *ℤ w)) ((x *ℤ w) *ℤ (y *ℤ z)) (simp (up-*ℤ, down-*ℤ) (omega arith))

-- a natural factor keeps an order
pub times_le : (x y : ℤ) (k : ℕ) → x ≤ℤ y → (x *ℤ pos k) ≤ℤ (y *ℤ pos k)
times_le x y k h =
    let more : (up x + down y) * k ≤ (up y + down x) * k = mul-le-mul_right k (omega (arith, ints)) in
    omega (arith, ints, more, up-*ℤ x (pos k), down-*ℤ x (pos k), up-*ℤ y (pos k), down-*ℤ y (pos k))

-- a product of positive numbers is positive
pub positive-*ℤ : (x y : ℤ) → pos 0 <ℤ x → pos 0 <ℤ y → pos 0 <ℤ (x *ℤ y)
positive-*ℤ (pos x) (pos y) h k =
    let first : 1 ≤ x = omega (arith, ints) in
    let second : 1 ≤ y = omega (arith, ints) in
    let some : 1 * 1 ≤ x * y = mul-le-mul first second in
    omega (arith, ints, some)
positive-*ℤ (pos x) (negsuc y) h k = absurd (omega (arith, ints))
positive-*ℤ (negsuc x) y h k = absurd (omega (arith, ints))

-- a positive one keeps a strict order, and a natural one may be left out of it
pub times_lt : (x y : ℤ) (k : ℕ) → 0 < k → x <ℤ y → (x *ℤ pos k) <ℤ (y *ℤ pos k)
times_lt x y k some h =
    let gap : up x + down y + 1 ≤ up y + down x = omega (arith, ints) in
    let more : (up x + down y + 1) * k ≤ (up y + down x) * k = mul-le-mul_right k gap in
    omega (arith, ints, more, up-*ℤ x (pos k), down-*ℤ x (pos k), up-*ℤ y (pos k), down-*ℤ y (pos k))

pub cancel_lt : (x y : ℤ) (k : ℕ) → (x *ℤ pos k) <ℤ (y *ℤ pos k) → x <ℤ y
cancel_lt x y k h =
    by_lt_z x y (λ below. below) (λ above. let more : (y *ℤ pos k) ≤ℤ (x *ℤ pos k) = times_le y x k above in absurd (omega (arith, ints)))
