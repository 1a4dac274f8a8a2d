-- What a contract sees of a pool.
use Rattle.std.specs.Prelude.{ℕ, Bool, List}

-- the words of each row, by its number; whether this number is free; and how many numbers were ever handed out: they
-- are the first ones
pub record Rows : Type 0 where
  pub rows : List (List ℕ)
  pub free : List Bool
  pub begun : ℕ
