-- Names in a set, whatever the order in which they stand.
use Rattle.std.specs.Prelude.{◌≡◌, ℕ, Bool, ◌||◌, List, Vec, map}
use Rattle.std.specs.List.{list_any}
use Rattle.std.specs.Str.{bytes_eq}

-- the bytes of each
abbrev pub texts : {A : Type 0} → List (Vec ℕ A) → List (List ℕ)
texts names = map (λ name. name.items) names

-- the name is among these
abbrev pub has : List (List ℕ) → List ℕ → Bool
has names name = list_any (λ other. bytes_eq other name) names

-- these are the names before and this one
abbrev pub IsAdded : List (List ℕ) → List ℕ → List (List ℕ) → Type 0
IsAdded before name after = (other : List ℕ) → has after other ≡ (bytes_eq name other || has before other)
