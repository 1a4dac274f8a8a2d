-- The table of names of a style sheet, as it is kept.
use Rattle.std.specs.Prelude.{ℕ, List, Vec, map}

-- the names with their numbers
abbrev pub shown_names : {M : Type 0} → List (Vec ℕ M × ℕ) → List (List ℕ × ℕ)
shown_names names = map (λ entry. (entry.0.items, entry.1)) names
