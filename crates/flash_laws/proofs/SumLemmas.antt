-- Sums of a function over the numbers below a limit.
use Rattle.std.proofs.Common.{ℕ, zero, suc, ◌≡◌, ◌+◌, ◌-◌, ◌*◌, ◌<◌, ◌≤◌, ◌∙◌, arith, inl, inr}
use Rattle.std.proofs.lemmas.Bool.{cases_lt}
use Rattle.page_model.specs.Flash.{sum_below}

pub sum-le : (n : ℕ) (f g : ℕ → ℕ) → ((i : ℕ) → i < n → f i ≤ g i) → sum_below n f ≤ sum_below n g
sum-le zero f g below = omega arith
sum-le (suc n) f g below =
    omega (arith, sum-le n f g (λ i within. below i (omega arith)), below n (omega arith))

-- each term is at most a bound
pub sum-bounded : (n bound : ℕ) (f : ℕ → ℕ) → ((i : ℕ) → i < n → f i ≤ bound) → sum_below n f ≤ n * bound
sum-bounded zero bound f below = omega arith
sum-bounded (suc n) bound f below =
    omega (arith, sum-bounded n bound f (λ i within. below i (omega arith)), below n (omega arith))

-- each term has one value
pub sum-same : (n value : ℕ) (f : ℕ → ℕ) → ((i : ℕ) → i < n → f i ≡ value) → sum_below n f ≡ n * value
sum-same zero value f same = omega arith
sum-same (suc n) value f same =
    omega (arith, sum-same n value f (λ i within. same i (omega arith)), same n (omega arith))

pub sum-none : (n : ℕ) (f : ℕ → ℕ) → ((i : ℕ) → i < n → f i ≡ 0) → sum_below n f ≡ 0
sum-none n f none = let h = sum-same n 0 f none in omega (arith, h)

-- each term is the sum of two
pub sum-add : (n : ℕ) (f g h : ℕ → ℕ) → ((i : ℕ) → i < n → f i ≡ g i + h i)
    → sum_below n f ≡ sum_below n g + sum_below n h
sum-add zero f g h parts = omega arith
sum-add (suc n) f g h parts =
    omega (arith, sum-add n f g h (λ i within. parts i (omega arith)), parts n (omega arith))

-- it grows with the limit
pub sum-longer : (n m : ℕ) (f : ℕ → ℕ) → n ≤ m → sum_below n f ≤ sum_below m f
sum-longer n zero f more = let none : n ≡ 0 = omega arith in rw none (omega arith)
sum-longer n (suc m) f more =
    elim (cases_lt m n) [
      | inl all ↦ let whole : n ≡ suc m = omega arith in rw whole (omega arith)
      | inr less ↦ omega (arith, sum-longer n m f less)
    ]

-- the terms from a on have one value, and those before are none
sum-from : (m a value : ℕ) (f : ℕ → ℕ) → ((i : ℕ) → i < a + m → a ≤ i → f i ≡ value)
    → ((i : ℕ) → i < a → f i ≡ 0) → sum_below (a + m) f ≡ m * value
sum-from zero a value f same before =
    let end : a + zero ≡ a = omega arith in
    rw end (let none = sum-none a f before in omega (arith, none))
sum-from (suc m) a value f same before =
    let end : a + suc m ≡ suc (a + m) = omega arith in
    rw end (omega (arith, sum-from m a value f (λ i within. same i (omega arith)) before, same (a + m) (omega arith) (omega arith)))

-- the terms behind a limit are none
sum-past : (n m : ℕ) (f : ℕ → ℕ) → ((i : ℕ) → m ≤ i → f i ≡ 0) → sum_below (m + n) f ≡ sum_below m f
sum-past zero m f none = let end : m + zero ≡ m = omega arith in rw end (omega arith)
sum-past (suc n) m f none =
    let end : m + suc n ≡ suc (m + n) = omega arith in
    rw end (omega (arith, sum-past n m f none, none (m + n) (omega arith)))

-- the terms from a to a + m have one value, and the others are none
pub sum-interval : (n a m value : ℕ) (f : ℕ → ℕ) → a + m ≤ n → ((i : ℕ) → i < a + m → a ≤ i → f i ≡ value)
    → ((i : ℕ) → i < a → f i ≡ 0) → ((i : ℕ) → a + m ≤ i → f i ≡ 0) → sum_below n f ≡ m * value
sum-interval n a m value f fits same before after =
    let whole : n ≡ a + m + (n - (a + m)) = omega arith in
    rw whole (sum-past (n - (a + m)) (a + m) f after ∙ sum-from m a value f same before)
