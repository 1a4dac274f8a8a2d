use Rattle.std.proofs.Common.{ℕ, ◌≡◌, ◌<◌, get_or}
use Rattle.window_area.proofs.columns.clear.Given as goal

abbrev pub invariant-loop-band : goal.invariant-loop-band
invariant-loop-band l = (k : ℕ) → k < l.band → get_or l.columns k 0 ≡ 0
