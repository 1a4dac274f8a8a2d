-- What the calls of a pool do with its rows and its free numbers.
use Rattle.std.specs.Prelude.{ℕ, ◌≡◌, ◌+◌, ◌≤◌, IsTrue, IsFalse, false, true, Option, Some, None, List, [], max, replicate, slice_index_or, slice_set}
use Rattle.row_pool.specs.declared.pool.RowId.{RowId}
use Rattle.row_pool.specs.Rows.{Rows}

-- so many rows of so many words of value 0, all of them free
abbrev pub opened : ℕ → ℕ → Rows
opened rows width = record { rows = replicate rows (replicate width 0); free = replicate rows true; begun = 0 }

-- the pool has a number, and it is free
abbrev pub IsFree : Rows → ℕ → Type 0
IsFree pool number = IsTrue (slice_index_or pool.free number false)

-- it has it, and it is handed out
abbrev pub IsOut : Rows → ℕ → Type 0
IsOut pool number = IsFalse (slice_index_or pool.free number true)

-- the words of a row
abbrev pub row_of : Rows → ℕ → List ℕ
row_of pool number = slice_index_or pool.rows number []

-- a number is handed out
abbrev pub handed_out : ℕ → Rows → Rows
handed_out number pool = record { rows = pool.rows; free = slice_set pool.free number false; begun = max pool.begun (number + 1) }

-- it is made free
abbrev pub given_back : ℕ → Rows → Rows
given_back number pool = record { rows = pool.rows; free = slice_set pool.free number true; begun = pool.begun }

-- a row gets other words, and all others stay
abbrev pub with_row : ℕ → List ℕ → Rows → Rows
with_row number words pool = record { rows = slice_set pool.rows number words; free = pool.free; begun = pool.begun }

-- the least free number is handed out
pub record IsTaken (old : Rows) (number : ℕ) (new : Rows) : Type 0 where
  pub was_free : IsFree old number
  pub least : (other : ℕ) → IsFree old other → number ≤ other
  pub is : new ≡ handed_out number old

-- or none is, and none is free
pub record IsNoneFree (old new : Rows) : Type 0 where
  pub none : (number : ℕ) → IsFree old number → ⊥
  pub same : new ≡ old

abbrev pub IsTaking : Rows → Option RowId → Rows → Type 0
IsTaking old None new = IsNoneFree old new
IsTaking old (Some id) new = IsTaken old id.number new
