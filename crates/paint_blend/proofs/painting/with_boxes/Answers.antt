-- The boxes are there and ready, and one more is painted.
use Rattle.std.proofs.Common.{arith}
use Rattle.paint_blend.proofs.ReadyLemmas.{box-more, state-ready}
use Rattle.paint_blend.proofs.painting.with_boxes.Goals as goal

pub bounds-states-number : goal.bounds-states-number
bounds-states-number c = (c.requires c.loop-number.number-index 0 (omega arith)).there

pub with_box-tint-requires : goal.with_box-tint-requires
with_box-tint-requires c =
    state-ready c.args.states.now _ _ (c.requires c.loop-number.number-index 0 (omega arith))

pub loop-number-preserved : goal.loop-number-preserved
loop-number-preserved c =
    box-more c.args.states.now c.args.boxes.now c.args.x c.args.y c.loop-number.number-index _ c.args.under c.loop-number.tint c.with_box-tint.result
    c.requires (omega arith) c.loop-number.invariant c.with_box-tint.ensures
