-- Common multiples of two numbers.
use Rattle.std.specs.Prelude.{ℕ, ◌≡◌, ◌%◌, ◌≤◌}

-- a number from 1 on is a multiple of both, and divides each other that is
pub record IsLeastMultiple (a b multiple : ℕ) : Type 0 where
  pub some : 1 ≤ multiple
  pub first : multiple % a ≡ 0
  pub second : multiple % b ≡ 0
  pub least : (n : ℕ) → n % a ≡ 0 → n % b ≡ 0 → n % multiple ≡ 0
