-- The calls of an end in memory, which are numbered from 1 and may be named to fail, and how much one
-- of them moves.
use Rattle.std.specs.Prelude.{ℕ, ◌≤◌, Bool, ◌==◌, List, take, min, Option, None, Some, IfSome}
use Rattle.std.specs.List.{list_any}

-- this call is named to fail
abbrev pub is_named : List ℕ → ℕ → Bool
is_named failing call = list_any (λ named. named == call) failing

-- bytes are doled out at least one by one, where they are doled out at all
abbrev pub IsDole : Option ℕ → Type 0
IsDole most = IfSome most (λ most. 1 ≤ most)

-- of so many bytes, how many one call may move: all, or at most as many as are doled out to a call
abbrev pub dealt : Option ℕ → ℕ → ℕ
dealt None count = count
dealt (Some most) count = min most count

-- of these bytes, those that one call may move: all, or the first, as many as are doled out to a call
abbrev pub offered : Option ℕ → List ℕ → List ℕ
offered None bytes = bytes
offered (Some most) bytes = take most bytes
