-- A number that can't be apart from another is that one.
use Rattle.std.proofs.Common.{◌≡◌, ℕ, ℤ, arith, inl, inr}
use Rattle.std.proofs.lemmas.Bool.{cases_eq}
use Rattle.std.proofs.lemmas.Int.{ints, by_lt_z}

pub nat-stable : (m n : ℕ) → ((m ≡ n → ⊥) → ⊥) → m ≡ n
nat-stable m n never = elim (cases_eq m n) [ inl same ↦ same | inr apart ↦ absurd (never apart) ]

pub int-stable : (a b : ℤ) → ((a ≡ b → ⊥) → ⊥) → a ≡ b
int-stable a b never =
    by_lt_z a b (λ less. absurd (never (λ e. omega (arith, ints)))) (λ above.
    by_lt_z b a (λ less. absurd (never (λ e. omega (arith, ints)))) (λ below. omega (arith, ints)))
