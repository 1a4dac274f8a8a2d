-- What a write refuses, and what a fault leaves of a text that was being written.
use Rattle.std.specs.Prelude.{ℕ, ◌<◌, Bool, true, not, ◌==◌, ◌&&◌, List, length, take, Option, Result, Ok, Err}
use Rattle.std.specs.Io.KnownBytes.{Appends}

-- where the bytes of the sink are told, first bytes of the text were appended, and not all of it
abbrev pub AppendsPrefix : Option (List ℕ) → Option (List ℕ) → List ℕ → Type 0
AppendsPrefix old new text = (n : ℕ) × (n < length text) × Appends old new (take n text)

-- a write failed, or took nothing of a piece that has bytes
abbrev pub is_refused : {E : Type 0} → Result ℕ E → List ℕ → Bool
is_refused (Ok n) piece = (n == 0) && not (length piece == 0)
is_refused (Err e) piece = true
