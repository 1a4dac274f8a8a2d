use Rattle.std.proofs.Common.{length}
use Rattle.tint_changes.proofs.tracing.+follow.Given as goal

abbrev pub decreases-follow : goal.decreases-follow
decreases-follow l = length l.places.now
