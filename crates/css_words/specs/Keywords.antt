-- Keywords, which are compared without regard to case.
use Rattle.std.specs.Prelude.{ℕ, Bool, List, [], ◌∷◌, Option, Some, None, if◌then◌else◌}
use Rattle.std.specs.Str.{str_eq_ignore_ascii_case}

-- the bytes are this keyword, in any case
unfoldable pub is_keyword : List ℕ → List ℕ → Bool
is_keyword keyword bytes = str_eq_ignore_ascii_case bytes keyword

-- what a table of keywords says of the bytes
abbrev pub lookup : {A : Type 0} → List (List ℕ × A) → List ℕ → Option A
lookup [] bytes = None
lookup (entry ∷ table) bytes = if is_keyword entry.0 bytes then Some entry.1 else lookup table bytes
