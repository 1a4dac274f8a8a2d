-- A box that is missed, one that may be there, and one that hides what lies under it.
use Rattle.std.proofs.Common.{arith}
use Rattle.paint_blend.proofs.SeenLemmas.{passed-hides, passed-missed, passed-mixed}
use Rattle.paint_blend.proofs.topmost.seen_from.Goals as goal

pub loop-place-preserved-in-Misses : goal.loop-place-preserved-in-Misses
loop-place-preserved-in-Misses c =
    passed-missed c.args.states.now c.args.boxes.now c.args.x c.args.y c.loop-place.place c.loop-place.first c.loop-place.end _ c.requires
    (omega arith) c.loop-place.invariant (c.touch_at.ensures.misses c.in-Misses.is)

pub loop-place-preserved : goal.loop-place-preserved
loop-place-preserved c =
    rw c.end_with-end.ensures
    (passed-mixed c.args.states.now c.args.boxes.now c.args.x c.args.y c.loop-place.place c.loop-place.first c.loop-place.end
    (omega arith) c.loop-place.invariant)

pub returns-in-Hides : goal.returns-in-Hides
returns-in-Hides c =
    passed-hides c.args.states.now c.args.boxes.now c.args.x c.args.y c.loop-place.place c.loop-place.first c.loop-place.end _ c.requires
    (omega arith) c.loop-place.invariant (c.touch_at.ensures.hides c.in-Hides.is)
