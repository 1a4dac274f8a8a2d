-- The greatest number that passes a test: how to show that a number is it, and how it grows with the test.
use Rattle.std.proofs.Common.{◌≡◌, ℕ, zero, suc, ◌<◌, ◌≤◌, Bool, true, false, arith, inl, inr}
use Rattle.std.proofs.lemmas.Bool.{cases_Bool, cases_eq, false_from_ne_true}
use Rattle.page_model.specs.Least.{greatest_up_to}

-- with a number each smaller one passes
abbrev pub IsAntitone : (ℕ → Bool) → Type 0
IsAntitone test = (m n : ℕ) → m ≤ n → test n ≡ true → test m ≡ true

-- it is at most the limit
pub greatest_up_to_le : (limit : ℕ) (test : ℕ → Bool) → greatest_up_to limit test ≤ limit
unfolding greatest_up_to
greatest_up_to_le zero test = omega arith
greatest_up_to_le (suc n) test =
    elim (cases_Bool (test (suc n))) [
      | inl e ↦ rw e (omega arith)
      | inr e ↦ rw e (let h = greatest_up_to_le n test in omega arith)
    ]

-- the last number that passes is it
pub greatest_up_to-last :
    (limit n : ℕ) (test : ℕ → Bool) → n ≤ limit → test n ≡ true → ((m : ℕ) → n < m → test m ≡ false)
    → greatest_up_to limit test ≡ n
unfolding greatest_up_to
greatest_up_to-last zero n test within passes above = omega arith
greatest_up_to-last (suc k) n test within passes above =
    elim (cases_eq n (suc k)) [
      | inl e ↦ let p = rw e at passes in rw p (omega arith)
      | inr e ↦ rw (above (suc k) (omega arith)) (greatest_up_to-last k n test (omega arith) passes above)
    ]

-- n passes, n + 1 does not, and the test is antitone: so n is the greatest
pub greatest_up_to-edge :
    (limit n : ℕ) (test : ℕ → Bool) → IsAntitone test → n ≤ limit → test n ≡ true → test (suc n) ≡ false
    → greatest_up_to limit test ≡ n
greatest_up_to-edge limit n test antitone within passes fails =
    greatest_up_to-last limit n test within passes
    (λ m above. false_from_ne_true (test m) (λ e. let p = antitone (suc n) m (omega arith) e in cc))

-- a test that passes more has no smaller greatest number
pub greatest_up_to-mono :
    (limit : ℕ) (test more : ℕ → Bool) → ((n : ℕ) → test n ≡ true → more n ≡ true)
    → greatest_up_to limit test ≤ greatest_up_to limit more
unfolding greatest_up_to
greatest_up_to-mono zero test more implied = omega arith
greatest_up_to-mono (suc n) test more implied =
    elim (cases_Bool (more (suc n))) [
      | inl e ↦ rw e (greatest_up_to_le (suc n) test)
      | inr e ↦ let f = false_from_ne_true (test (suc n)) (λ h. let p = implied (suc n) h in cc) in
          rw (e, f) (greatest_up_to-mono n test more implied)
    ]
