use Rattle.std.proofs.Common.{ℕ, ◌+◌, ◌<◌, slice_index}
use Rattle.witness_checks.proofs.frames.rises.Given as goal

abbrev pub invariant-loop-turn : goal.invariant-loop-turn
invariant-loop-turn l = (k : ℕ) → k + 1 < l.turn → slice_index l.part.frames k < slice_index l.part.frames (k + 1)
