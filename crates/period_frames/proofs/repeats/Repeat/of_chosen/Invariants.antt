-- What is known is that of the chosen layers so far.
use Rattle.std.proofs.Common.{take}
use Rattle.std.specs.List.{items_where_true}
use Rattle.page_model.specs.Horizon.{animations_of}
use Rattle.period_frames.specs.Repeats.{IsRepeat}
use Rattle.period_frames.proofs.repeats.Repeat.of_chosen.Given as goal

abbrev pub invariant-loop-i : goal.invariant-loop-i
invariant-loop-i l = IsRepeat l.setup (animations_of (items_where_true (take l.i l.chosen) (take l.i l.layers))) l.all
