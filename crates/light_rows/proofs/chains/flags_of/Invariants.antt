use Rattle.std.proofs.Common.{◌≡◌}
use Rattle.light_rows.proofs.chains.flags_of.Given as goal

abbrev pub invariant-loop-tint : goal.invariant-loop-tint
invariant-loop-tint l = l.tracker.count ≡ l.tint-index
