-- Sums of a function over the numbers below a limit.
use Rattle.std.proofs.Common.{ℕ, zero, suc, ◌≡◌, ◌+◌, ◌*◌, ◌<◌, ◌≤◌, arith, refl}
use Rattle.page_model.specs.Flash.{sum_below}

pub sum-le : (n : ℕ) (f g : ℕ → ℕ) → ((i : ℕ) → i < n → f i ≤ g i) → sum_below n f ≤ sum_below n g
sum-le zero f g below = omega arith
sum-le (suc n) f g below =
    omega (arith, sum-le n f g (λ i within. below i (omega arith)), below n (omega arith))

-- each term is at most a bound
pub sum-bounded : (n bound : ℕ) (f : ℕ → ℕ) → ((i : ℕ) → i < n → f i ≤ bound) → sum_below n f ≤ n * bound
sum-bounded zero bound f below = omega arith
sum-bounded (suc n) bound f below =
    omega (arith, sum-bounded n bound f (λ i within. below i (omega arith)), below n (omega arith))

-- the terms are the same
pub sum-same : (n : ℕ) (f g : ℕ → ℕ) → ((i : ℕ) → i < n → f i ≡ g i) → sum_below n f ≡ sum_below n g
sum-same zero f g same = refl
sum-same (suc n) f g same =
    omega (arith, sum-same n f g (λ i within. same i (omega arith)), same n (omega arith))

-- no term counts
pub sum-none : (n : ℕ) (f : ℕ → ℕ) → ((i : ℕ) → i < n → f i ≡ 0) → sum_below n f ≡ 0
sum-none zero f none = refl
sum-none (suc n) f none =
    omega (arith, sum-none n f (λ i within. none i (omega arith)), none n (omega arith))

-- a relation between the terms, with a factor at two of them, is one between the sums
pub sum-steps : (n t : ℕ) (a b l g : ℕ → ℕ) → ((i : ℕ) → i < n → a i + t * l i ≡ b i + t * g i)
    → sum_below n a + t * sum_below n l ≡ sum_below n b + t * sum_below n g
sum-steps zero t a b l g each = refl
sum-steps (suc n) t a b l g each =
    omega (arith, sum-steps n t a b l g (λ i within. each i (omega arith)), each n (omega arith))

-- terms that are others and a factor of third ones
pub sum-scaled : (n t : ℕ) (a b g : ℕ → ℕ) → ((i : ℕ) → i < n → a i ≡ b i + t * g i) → sum_below n a ≡ sum_below n b + t * sum_below n g
sum-scaled zero t a b g each = omega arith
sum-scaled (suc n) t a b g each =
    omega (arith, sum-scaled n t a b g (λ i within. each i (omega arith)), each n (omega arith))

-- more terms
pub sum-more : (n m : ℕ) (f : ℕ → ℕ) (value : ℕ) → ((i : ℕ) → n ≤ i → i < n + m → f i ≡ value)
    → sum_below (n + m) f ≡ sum_below n f + m * value
sum-more n zero f value same = let end : n + zero ≡ n = omega arith in rw end (omega arith)
sum-more n (suc m) f value same =
    let end : n + suc m ≡ suc (n + m) = omega arith in
    rw end (omega (arith, sum-more n m f value (λ i low high. same i low (omega arith)), same (n + m) (omega arith) (omega arith)))
