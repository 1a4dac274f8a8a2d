-- The least frame whose moment isn't before the time at which the animation has settled.
use Rattle.period_frames.proofs.SettledLemmas.{settled-least}
use Rattle.period_frames.proofs.settling.settled_frame.Goals as goal

pub returns : goal.returns
returns c =
    let time = c.settled_time.ensures.value in
    let unit = c.frame_time.ensures.value in
    let ceil = c.div_ceil.ensures in
    settled-least c.args.setup.now c.args.anim.now c.settled_time.result c.frame_time.result c.div_ceil.result time unit
    c.frame_time.ensures.some ceil
