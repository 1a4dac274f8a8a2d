-- The eight bytes of a word.
use Rattle.std.specs.Prelude.{ℕ, zero, suc, slice_index}
use Rattle.std.specs.Int.{w64, to_le_bytes}

-- the bytes of a word, the lowest first
unfoldable pub byte : ℕ → ℕ → ℕ
byte word i = slice_index (to_le_bytes w64 word) i

-- of the eight numbers from one on, and of 0, which has none of its own
abbrev pub number_of : ℕ → ℕ → ℕ
number_of word zero = 0
number_of word (suc n) = byte word n
