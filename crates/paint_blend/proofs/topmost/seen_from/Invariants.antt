-- The boxes from the place on are looked at.
use Rattle.paint_blend.proofs.SeenLemmas.{ArePassed}
use Rattle.paint_blend.proofs.topmost.seen_from.Given as goal

abbrev pub invariant-loop-place : goal.invariant-loop-place
invariant-loop-place l = ArePassed l.states l.boxes l.x l.y l.place l.first l.end
