-- How a pool keeps its rows: the words of the first rows side by side, and those of the others, zeros, nowhere.
use Rattle.std.specs.Prelude.{ℕ, ◌≡◌, ◌+◌, ◌*◌, ◌^◌, ◌<◌, ◌≤◌, Bool, IsTrue, false, not, List, length, map, slice_index, slice_index_or}
use Rattle.std.specs.List.{range_with_len}

-- the words of a row. A word that isn't there is 0
abbrev pub row_in : ℕ → List ℕ → ℕ → List ℕ
row_in width words number = map (λ i. slice_index words (number * width + i)) (range_with_len 0 width)

abbrev pub rows_in : ℕ → ℕ → List ℕ → List (List ℕ)
rows_in rows width words = map (λ number. row_in width words number) (range_with_len 0 rows)

-- which numbers are free: those that aren't out
abbrev pub free_in : ℕ → List Bool → List Bool
free_in rows out = map (λ number. not (slice_index_or out number false)) (range_with_len 0 rows)

-- the rows that have words are those that were ever out, there is room for those of all others, and all numbers
-- below the least are out
pub record IsKept (rows width : ℕ) (words : List ℕ) (word_room : ℕ) (out : List Bool) (out_room least : ℕ) : Type 0 where
  pub long : length words ≡ length out * width
  pub within : length out ≤ rows
  pub limit : rows * width ≤ 2 ^ 26
  pub has_word_room : rows * width ≤ word_room
  pub has_out_room : rows ≤ out_room
  pub passed : least ≤ length out
  pub all_out : (number : ℕ) → number < least → IsTrue (slice_index_or out number false)
