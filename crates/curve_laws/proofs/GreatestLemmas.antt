-- The greatest number up to a limit that passes a test: it passes where 0 does, and no greater one up to the limit does. And
-- functions that rise step by step.
use Rattle.std.proofs.Common.{◌≡◌, ℕ, zero, suc, ◌+◌, ◌*◌, ◌<◌, ◌≤◌, Bool, true, arith, inl, inr}
use Rattle.std.proofs.lemmas.Bool.{cases_Bool, cases_eq}
use Rattle.page_model.specs.Least.{greatest_up_to}

pub greatest-passes : (limit : ℕ) (test : ℕ → Bool) → test 0 ≡ true → test (greatest_up_to limit test) ≡ true
unfolding greatest_up_to
greatest-passes zero test first = first
greatest-passes (suc n) test first =
    elim (cases_Bool (test (suc n))) [
      | inl e ↦ rw e e
      | inr e ↦ rw e (greatest-passes n test first)
    ]

pub greatest-most : (limit n : ℕ) (test : ℕ → Bool) → n ≤ limit → test n ≡ true → n ≤ greatest_up_to limit test
unfolding greatest_up_to
greatest-most zero n test within passes = within
greatest-most (suc k) n test within passes =
    elim (cases_Bool (test (suc k))) [
      | inl e ↦ rw e within
      | inr e ↦ elim (cases_eq n (suc k)) [
        | inl same ↦ let p = rw same at passes in cc
        | inr less ↦ rw e (greatest-most k n test (omega arith) passes)
      ]
    ]

-- a function that falls at no step below a limit rises up to it
pub rises : (f : ℕ → ℕ) (m j n : ℕ) → ((k : ℕ) → k < m → f k ≤ f (suc k)) → j + n ≤ m → f j ≤ f (j + n)
rises f m j zero step within = let same : j + zero ≡ j = omega arith in rw same (omega arith)
rises f m j (suc n) step within =
    let so_far = rises f m j n step (omega arith) in
    let next = step (j + n) (omega arith) in
    let same : j + suc n ≡ suc (j + n) = omega arith in
    rw same (omega (arith, so_far, next))

-- the difference of two functions that grows by a bound at most at each step grows by so many of it over several
pub grows : (f g : ℕ → ℕ) (m bound j n : ℕ) → ((k : ℕ) → k < m → f (suc k) + g k ≤ f k + g (suc k) + bound) → j + n ≤ m
    → f (j + n) + g j ≤ f j + g (j + n) + n * bound
grows f g m bound j zero step within = let same : j + zero ≡ j = omega arith in rw same (omega arith)
grows f g m bound j (suc n) step within =
    let so_far = grows f g m bound j n step (omega arith) in
    let next = step (j + n) (omega arith) in
    let same : j + suc n ≡ suc (j + n) = omega arith in
    rw same (omega (arith, so_far, next))
