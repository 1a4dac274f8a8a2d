-- Whole numbers of cycles as numbers alone: with a frame of so many ticks, m frames are whole where ticks * m leaves no rest by
-- the cycle.
use Rattle.std.proofs.Common.{◌≡◌, ℕ, ◌+◌, ◌*◌, ◌/◌, ◌%◌, ◌<◌, ◌≤◌, arith, ap, sym, ◌∙◌, inl, inr}
use Rattle.std.proofs.lemmas.Bool.{cases_lt}
use Rattle.std.proofs.Math.Nat.{div-add-mod, add-mul-mod_self_left, mul-mod_left, mul-mod_right, le_of_mul-le-mul_left}

-- equal products with an equal factor
pub same_factor : (k m n : ℕ) → 0 < k → k * m ≡ k * n → m ≡ n
same_factor k m n some e =
    let below : m ≤ n = le_of_mul-le-mul_left {k = k} (omega arith) some in
    let above : n ≤ m = le_of_mul-le-mul_left {k = k} (omega arith) some in
    omega arith

-- a number without a rest is a multiple
pub multiple : (m t : ℕ) → m % t ≡ 0 → m ≡ t * (m / t)
multiple m t e = let sum = div-add-mod m t in omega arith

-- the cycle itself is whole
pub cycle_whole : (ticks cycle : ℕ) → ticks * cycle % cycle ≡ 0
cycle_whole ticks cycle = mul-mod_left ticks cycle

split_sum : (ticks cycle t m q k r : ℕ) → ticks * t ≡ cycle * q → m ≡ t * k + r → ticks * m ≡ ticks * r + cycle * (q * k)
split_sum ticks cycle t m q k r e f = rw f (let p = ap (λ x. x * k) e in omega arith)

-- the rest of whole frames by whole frames is whole
pub rest_whole : (ticks cycle t m : ℕ) → ticks * t % cycle ≡ 0 → ticks * m % cycle ≡ 0 → ticks * (m % t) % cycle ≡ 0
rest_whole ticks cycle t m one other =
    let q = ticks * t / cycle in
    let sum : m ≡ t * (m / t) + m % t = sym (div-add-mod m t) in
    let split = split_sum ticks cycle t m q (m / t) (m % t) (multiple (ticks * t) cycle one) sum in
    sym (add-mul-mod_self_left (ticks * (m % t)) cycle (q * (m / t))) ∙ (ap (λ x. x % cycle) (sym split) ∙ other)

product_sum : (ticks cycle t q k : ℕ) → ticks * t ≡ cycle * q → ticks * (t * k) ≡ cycle * (q * k)
product_sum ticks cycle t q k e = let p = ap (λ x. x * k) e in omega arith

-- each multiple of whole frames is whole
pub multiple_whole : (ticks cycle t m : ℕ) → ticks * t % cycle ≡ 0 → m % t ≡ 0 → ticks * m % cycle ≡ 0
multiple_whole ticks cycle t m one rest =
    let q = ticks * t / cycle in
    let split = product_sum ticks cycle t q (m / t) (multiple (ticks * t) cycle one) in
    ap (λ x. x % cycle) (ap (λ x. ticks * x) (multiple m t rest) ∙ split) ∙ mul-mod_right cycle (q * (m / t))

-- the factors of a number above 0 are above 0
pub some_left : (a b n : ℕ) → n ≡ a * b → 0 < n → 0 < a
some_left a b n e some =
    elim (cases_lt 0 a) [
      | inl above ↦ above
      | inr none ↦ let z : a ≡ 0 = omega arith in let p = ap (λ x. x * b) z in absurd (omega arith)
    ]

pub some_right : (a b n : ℕ) → n ≡ a * b → 0 < n → 0 < b
some_right a b n e some = some_left b a n (omega arith) some

-- a first factor divides
pub factor_divides : (a b n : ℕ) → n ≡ a * b → n % a ≡ 0
factor_divides a b n e = ap (λ x. x % a) e ∙ mul-mod_right a b

-- ticks is the product of what the cycle has more than t, and the cycles that t frames are
pub other_factor : (ticks cycle t k q : ℕ) → 0 < t → cycle ≡ t * k → ticks * t ≡ cycle * q → ticks ≡ k * q
other_factor ticks cycle t k q some e f =
    let p = ap (λ x. x * q) e in
    same_factor t ticks (k * q) some (omega arith)

-- the cycle over a divisor of both is whole
pub part_whole : (ticks cycle g a b : ℕ) → cycle ≡ g * a → ticks ≡ g * b → ticks * a % cycle ≡ 0
part_whole ticks cycle g a b e f =
    let p = ap (λ x. x * a) f in
    let r = ap (λ x. x * b) e in
    let same : ticks * a ≡ cycle * b = omega arith in
    factor_divides cycle b (ticks * a) same

-- what the divisor has more
pub cycle_parts : (cycle t k g j a : ℕ) → 0 < k → cycle ≡ t * k → g ≡ k * j → cycle ≡ g * a → t ≡ j * a
cycle_parts cycle t k g j a some e f h =
    let p = ap (λ x. x * a) f in
    same_factor k t (j * a) some (omega arith)
