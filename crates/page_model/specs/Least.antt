-- Least and greatest numbers with a property. The project's own.
use Rattle.std.specs.Prelude.{ℕ, zero, suc, Bool, ◌≤◌, if◌then◌else◌}

-- the property holds of the number, and of none below it
pub record IsLeast (P : ℕ → Type 0) (n : ℕ) : Type 0 where
  pub holds : P n
  pub least : (m : ℕ) → P m → n ≤ m

-- the greatest number up to a limit that passes a test, or 0
unfoldable pub greatest_up_to : ℕ → (ℕ → Bool) → ℕ
greatest_up_to zero test = 0
greatest_up_to (suc n) test = if test (suc n) then suc n else greatest_up_to n test
