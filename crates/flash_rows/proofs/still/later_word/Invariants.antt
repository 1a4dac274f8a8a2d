use Rattle.std.proofs.Common.{ℕ, ◌≡◌, ◌+◌, ◌<◌, ◌≤◌, get_or, length}
use Rattle.std.specs.Prelude.{min}
use Rattle.flash_rows.specs.Rows.{byte}
use Rattle.flash_rows.proofs.still.later_word.Given as goal

abbrev pub invariant-loop-i : goal.invariant-loop-i
invariant-loop-i l =
    (length l.bytes ≡ 8)
    × ((k : ℕ) → k < l.i → k < 8 → get_or l.bytes k 0 ≡ min (byte l.word k + 1) (l.rate + 1))
    × ((k : ℕ) → l.i ≤ k → get_or l.bytes k 0 ≡ byte l.word k)
