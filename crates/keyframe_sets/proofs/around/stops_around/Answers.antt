-- The stops of the next keyframe are one more, or none.
use Rattle.keyframe_sets.proofs.AroundLemmas.{stops_of-more}
use Rattle.keyframe_sets.proofs.around.stops_around.Goals as goal

pub loop-frame-preserved : goal.loop-frame-preserved
loop-frame-preserved c =
    let more = stops_of-more c.args.prop c.args.frames.now c.loop-frame.frame-index c.frame-item.result c.loop-frame-test.true c.frame-item.is in
    record {
      around = rw more (c.with_frame-around.ensures.around _ c.loop-frame.invariant.around);
      apart = c.with_frame-around.ensures.apart;
    }
