-- Rows of a pool that stand for the tints of cells: the row of a cell has the cell's number.
use Rattle.std.specs.Prelude.{ℕ, false, ◌≡◌, ◌+◌, ◌*◌, ◌<◌, ◌≤◌, List, [], ◌∷◌, ◌++◌, length, slice_index_or}
use Rattle.page_model.specs.declared.colour.Tint.{Tint}
use Rattle.flash_count.specs.declared.tracking.Flag.{Flag}
use Rattle.flash_count.specs.Rows.{StandsFor}
use Rattle.flash_count.specs.Tracked.{Tells, last_of}
use Rattle.row_pool.specs.Pools.{IsFree, IsOut, row_of}
use Rattle.row_pool.specs.Rows.{Rows}

-- the first rows, so many, are out, and have room for a window
abbrev pub AreRoomy : ℕ → ℕ → Rows → Type 0
AreRoomy rate rows pool = (number : ℕ) → number < rows → IsOut pool number × (9 * (rate + 1) ≤ length (row_of pool number))

-- nothing but the words of the first rows is another
pub record OnlyRows (rows : ℕ) (old new : Rows) : Type 0 where
  pub free : new.free ≡ old.free
  pub many : length new.rows ≡ length old.rows
  pub others : (number : ℕ) → rows ≤ number → row_of new number ≡ row_of old number

-- a row stands for no tints
pub record IsBegun (rate : ℕ) (old new : List ℕ) : Type 0 where
  pub long : length new ≡ length old
  pub stands : StandsFor rate [] new

abbrev pub AreBegun : ℕ → ℕ → Rows → Rows → Type 0
AreBegun rate rows old new = (number : ℕ) → number < rows → IsBegun rate (row_of old number) (row_of new number)

-- a row that stood for so many tints stands for one more, and the flag is that of the last of them
pub record IsPushed (rate turn : ℕ) (tint : Tint) (old new : List ℕ) (flag : Flag) : Type 0 where
  pub long : length new ≡ length old
  pub stands : (tints : List Tint) → length tints ≡ turn → StandsFor rate tints old → StandsFor rate (tints ++ tint ∷ []) new
  pub flag_is : (tints : List Tint) → length tints ≡ turn → StandsFor rate tints old → Tells (last_of (rate + 1) (tints ++ tint ∷ [])) flag

-- the same of the first rows, so many, each with its tint
abbrev pub ArePushed : ℕ → ℕ → List Tint → ℕ → Rows → Rows → List Flag → Type 0
ArePushed rate turn tints rows old new flags =
    (number : ℕ) (tint : Tint) (flag : Flag) → number < rows
    → IsPushed rate turn (slice_index_or tints number tint) (row_of old number) (row_of new number) (slice_index_or flags number flag)

-- the first rows, so many, are free, or out
abbrev pub AreAllFree : ℕ → Rows → Type 0
AreAllFree rows pool = (number : ℕ) → number < rows → IsFree pool number

abbrev pub AreAllOut : ℕ → Rows → Type 0
AreAllOut rows pool = (number : ℕ) → number < rows → IsOut pool number

-- they are taken or given back, and nothing else is another
pub record AreTaken (rows : ℕ) (old new : Rows) : Type 0 where
  pub out : AreAllOut rows new
  pub same : new.rows ≡ old.rows
  pub many : length new.free ≡ length old.free
  pub others : (number : ℕ) → rows ≤ number → slice_index_or new.free number false ≡ slice_index_or old.free number false

pub record AreGiven (rows : ℕ) (old new : Rows) : Type 0 where
  pub free : AreAllFree rows new
  pub same : new.rows ≡ old.rows
  pub many : length new.free ≡ length old.free
  pub others : (number : ℕ) → rows ≤ number → slice_index_or new.free number false ≡ slice_index_or old.free number false
