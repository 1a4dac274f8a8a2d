use Rattle.std.proofs.Common.{ℕ, ◌≡◌, ◌⊎◌, ◌+◌, ◌*◌, ◌<◌, ◌≤◌, get_or}
use Rattle.flash_count.proofs.rows.put.Given as goal

abbrev pub invariant-loop-i : goal.invariant-loop-i
invariant-loop-i l =
    ((k : ℕ) → k < l.i → get_or l.row (9 * l.place + k) 0 ≡ get_or l.words k 0)
    × ((k : ℕ) → (k < 9 * l.place) ⊎ (9 * l.place + 9 ≤ k) → get_or l.row k 0 ≡ get_or l.initial.row k 0)
