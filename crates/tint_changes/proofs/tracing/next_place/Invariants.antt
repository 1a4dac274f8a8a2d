use Rattle.std.proofs.Common.{ℕ, ◌<◌}
use Rattle.tint_changes.specs.Runs.{LeadsOn}
use Rattle.tint_changes.proofs.tracing.next_place.Given as goal

abbrev pub invariant-loop-later : goal.invariant-loop-later
invariant-loop-later l = (k : ℕ) → l.place < k → k < l.later → LeadsOn l.opposing l.tints l.counts l.place l.more k → ⊥
