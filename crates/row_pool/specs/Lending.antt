-- What a pool becomes when one of its rows has been written.
use Rattle.std.specs.Prelude.{ℕ, ◌+◌, ◌-◌, ◌*◌, ◌==◌, ◌&&◌, nat_le, nat_lt, if◌then◌else◌, List, length, map, slice_index}
use Rattle.std.specs.List.{range_with_len}
use Rattle.std.specs.Borrow.{Lends, MutBor, Fml, Array, u64}
use Rattle.row_pool.specs.contracts.pool.Pool.{the_row}
use Rattle.row_pool.specs.Pools.{row_of, with_row}
use Rattle.row_pool.specs.Rows.{Rows}

-- A reference to a slice keeps its length, so the words behind it are always as many as the row has. The logic asks
-- for others too: they would be written over the row's words, and over those of the rows behind that were ever out.
abbrev pub overrun_word : Rows → ℕ → ℕ → List ℕ → ℕ → ℕ → ℕ
overrun_word pool width number words row i =
    if nat_lt row pool.begun && (nat_le (number * width) (row * width + i) && nat_lt (row * width + i) (number * width + length words))
    then slice_index words (row * width + i - number * width)
    else slice_index (row_of pool row) i

abbrev pub overrun : ℕ → List ℕ → Rows → Rows
overrun number words pool = record {
  rows = map (λ row. map (overrun_word pool (length (row_of pool number)) number words row) (range_with_len 0 (length (row_of pool number)))) (range_with_len 0 (length pool.rows));
  free = pool.free;
  begun = pool.begun;
}

-- the pool with the words that were last behind a reference to a row
abbrev pub with_words : ℕ → List ℕ → Rows → Rows
with_words number words pool = if length words == length (row_of pool number) then with_row number words pool else overrun number words pool

-- the pool ends with a row as it was left behind the reference
abbrev pub LendsRow : MutBor Rows → ℕ → MutBor (List ℕ) → Fml
LendsRow pool number row = Lends the_row (Array u64 0) pool row (λ words. with_words number words pool.now)
