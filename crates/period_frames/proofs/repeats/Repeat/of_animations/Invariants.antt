-- What is known is that of the animations so far.
use Rattle.std.proofs.Common.{take}
use Rattle.period_frames.specs.Repeats.{IsRepeat}
use Rattle.period_frames.proofs.repeats.Repeat.of_animations.Given as goal

abbrev pub invariant-loop-anim : goal.invariant-loop-anim
invariant-loop-anim l = IsRepeat l.setup (take l.anim-index l.anims) l.all
