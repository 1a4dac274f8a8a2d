-- What is known is that of the animations of the layers so far.
use Rattle.std.proofs.Common.{take}
use Rattle.page_model.specs.Horizon.{animations_of}
use Rattle.period_frames.specs.Repeats.{IsRepeat}
use Rattle.period_frames.proofs.repeats.Repeat.of_layers.Given as goal

abbrev pub invariant-loop-layer : goal.invariant-loop-layer
invariant-loop-layer l = IsRepeat l.setup (animations_of (take l.layer-index l.layers)) l.all
