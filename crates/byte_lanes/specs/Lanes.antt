-- Numbers side by side in lanes of 16 bits, four to a word, the first in the lowest bits.
use Rattle.std.specs.Prelude.{ℕ, ◌≡◌, ◌/◌, ◌%◌, ◌<◌, List, [], ◌∷◌, min, slice_index}
use Rattle.byte_lanes.specs.declared.lanes.Numbers.{Numbers}

-- the lanes of a word
unfoldable pub lanes_of : ℕ → List ℕ
lanes_of word = (word % 65536) ∷ (word / 65536 % 65536) ∷ (word / 4294967296 % 65536) ∷ (word / 281474976710656 % 65536) ∷ []

-- each is below a limit
abbrev pub AreLanesBelow : ℕ → ℕ → Type 0
AreLanesBelow limit word = (i : ℕ) → i < 4 → slice_index (lanes_of word) i < limit

-- each is the lesser one of two
abbrev pub IsLesser : ℕ → ℕ → ℕ → Type 0
IsLesser a b lesser = (i : ℕ) → i < 4 → slice_index (lanes_of lesser) i ≡ min (slice_index (lanes_of a) i) (slice_index (lanes_of b) i)

-- eight numbers in turn, those of the one word and those of the other
abbrev pub in_turn : List ℕ → List ℕ → List ℕ
in_turn even odd =
    slice_index even 0 ∷ slice_index odd 0 ∷ slice_index even 1 ∷ slice_index odd 1 ∷ slice_index even 2 ∷ slice_index odd 2 ∷ slice_index even 3
    ∷ slice_index odd 3 ∷ []

abbrev pub numbers_of : Numbers → List ℕ
numbers_of numbers = in_turn (lanes_of numbers.even) (lanes_of numbers.odd)

-- each is below a limit
abbrev pub AreBelow : ℕ → Numbers → Type 0
AreBelow limit numbers = (n : ℕ) → n < 8 → slice_index (numbers_of numbers) n < limit
