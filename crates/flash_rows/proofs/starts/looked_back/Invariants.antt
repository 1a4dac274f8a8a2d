use Rattle.std.proofs.Common.{ℕ, ◌≡◌, ◌+◌, ◌-◌, ◌<◌, ◌≤◌, List, [], ◌∷◌, ◌++◌, get_or, length}
use Rattle.page_model.specs.declared.colour.Tint.{Tint}
use Rattle.tint_changes.specs.declared.changes.Change.{Change}
use Rattle.flash_rows.specs.Pushing.{AreSmall, latest_of}
use Rattle.flash_rows.specs.Rows.{StandsFor}
use Rattle.flash_rows.specs.Starts.{IsLatest}
use Rattle.flash_rows.proofs.RowLemmas.{Back}
use Rattle.flash_rows.proofs.starts.looked_back.Given as goal

abbrev pub invariant-back : goal.invariant-back
invariant-back l =
    (1 ≤ l.age)
    × AreSmall l.best
    × ((change : Change) (tints : List Tint) → length tints ≡ l.turn → StandsFor l.rate tints l.row → (n : ℕ) → n < 8
    → IsLatest (Back change (tints ++ l.next.tint ∷ []) n (l.turn + 1 - l.age) l.turn) l.rate l.turn (get_or (latest_of change l.best) n 0))

abbrev pub decreases-back : goal.decreases-back
decreases-back l = l.rate + 1 - l.age
