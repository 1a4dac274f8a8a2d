-- What a style sheet holds, and what each call makes of it: CSS Animations Level 1, the `@keyframes` rule, of which the last of one
-- name counts.
use Rattle.std.specs.Prelude.{ℕ, ◌≡◌, List, [], ◌∷◌, ◌++◌, Option, Some, None, length, option_and_then, slice_get, slice_set}
use Rattle.std.specs.Map.{lookup}
use Rattle.std.specs.Str.{bytes_eq}
use Rattle.page_model.specs.declared.keyframe.KeyframeSet.{KeyframeSet}
use Rattle.page_model.specs.declared.rule.Rule.{Rule}

-- the rules in the order of the file, the keyframe sets, and the names, each with the number of its set, which is its place among them
pub record SheetState : Type 0 where
  pub rules : List Rule
  pub sets : List KeyframeSet
  pub names : List (List ℕ × ℕ)

-- a sheet with no rule and no set
abbrev pub no_rules : SheetState
no_rules = record { rules = []; sets = []; names = [] }

-- the number of the set that a name means
abbrev pub set_named : SheetState → List ℕ → Option ℕ
set_named sheet name = lookup (bytes_eq name) sheet.names

-- the keyframes that a name means
abbrev pub frames_named : SheetState → List ℕ → Option KeyframeSet
frames_named sheet name = option_and_then (slice_get sheet.sets) (set_named sheet name)

-- with one rule more
abbrev pub with_rule : SheetState → Rule → SheetState
with_rule sheet rule = record sheet { rules = sheet.rules ++ rule ∷ [] }

-- with a set in the place of an earlier one, or last
abbrev pub with_set_at : SheetState → List ℕ → KeyframeSet → Option ℕ → SheetState
with_set_at sheet name set (Some number) = record sheet { sets = slice_set sheet.sets number set }
with_set_at sheet name set None =
    record sheet { sets = sheet.sets ++ set ∷ []; names = sheet.names ++ (name, length sheet.sets) ∷ [] }

-- with the set of a name: it replaces an earlier one of that name whole and takes its number, and a new name's goes last
abbrev pub with_set : SheetState → List ℕ → KeyframeSet → SheetState
with_set sheet name set = with_set_at sheet name set (set_named sheet name)

-- each set has one name, and the names are in the order of the numbers
pub record AreNumbered (sets : List KeyframeSet) (names : List (List ℕ × ℕ)) : Type 0 where
  pub one_each : length names ≡ length sets
  pub in_order : (place : ℕ) (name : List ℕ) (number : ℕ) → slice_get names place ≡ Some (name, number) → number ≡ place

abbrev pub IsNumbered : SheetState → Type 0
IsNumbered sheet = AreNumbered sheet.sets sheet.names
