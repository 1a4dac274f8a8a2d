use Rattle.window_area.proofs.StripLemmas.{IsHeldSoFar}
use Rattle.window_area.proofs.strip.held_at_start.Given as goal

abbrev pub invariant-loop-band : goal.invariant-loop-band
invariant-loop-band l = IsHeldSoFar l.edges l.weights l.size l.band l.held
