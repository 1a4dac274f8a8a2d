-- Tables of a sheet's keyframe sets.
use Rattle.std.specs.Prelude.{ℕ, ◌≡◌, ◌+◌, List, [], ◌∷◌, Option, Some, None, filter, map, slice_get, option_and_then, if◌then◌else◌}
use Rattle.page_model.specs.declared.keyframe.KeyframeSet.{KeyframeSet}
use Rattle.page_model.specs.Cascade.{kept_number, names_more, names_property}
use Rattle.cascade.specs.declared.tables.Tables.{Tables}

-- the number of each set among those that name a property, where so many such sets stand before
abbrev pub kept_from : ℕ → List KeyframeSet → List (Option ℕ)
kept_from before [] = []
kept_from before (set ∷ sets) =
    if names_property set then Some before ∷ kept_from (before + 1) sets else None ∷ kept_from before sets

-- what a table says of a number
abbrev pub kept_in : List (Option ℕ) → ℕ → Option ℕ
kept_in numbers number = option_and_then (λ (kept : Option ℕ). kept) (slice_get numbers number)

-- the tables of some sets
pub record AreTables (sets : List KeyframeSet) (tables : Tables) : Type 0 where
  pub numbers : (number : ℕ) → kept_in tables.numbers.items number ≡ kept_number sets number
  pub more : tables.more.items ≡ map names_more (filter names_property sets)
