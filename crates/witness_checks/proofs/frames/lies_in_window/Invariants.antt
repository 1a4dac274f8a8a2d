use Rattle.std.proofs.Common.{ℕ, ◌+◌, ◌<◌, ◌≤◌, slice_index}
use Rattle.page_model.specs.Time.{window_of}
use Rattle.witness_checks.proofs.frames.lies_in_window.Given as goal

abbrev pub invariant-loop-turn : goal.invariant-loop-turn
invariant-loop-turn l = (k : ℕ) → k < l.turn → (l.witness.start ≤ slice_index l.part.frames k) × (slice_index l.part.frames k ≤ l.witness.start + window_of l.setup)
