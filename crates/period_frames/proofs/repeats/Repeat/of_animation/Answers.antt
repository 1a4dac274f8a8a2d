-- What is known of the animation itself.
use Rattle.period_frames.proofs.SingleLemmas.{settled-single}
use Rattle.period_frames.proofs.repeats.Repeat.of_animation.Goals as goal

pub returns : goal.returns
returns c = record {
  settled = settled-single c.args.setup.now c.args.anim.now c.settled_frame.result c.settled_frame.ensures;
  period = c.period_of.ensures.period;
}
