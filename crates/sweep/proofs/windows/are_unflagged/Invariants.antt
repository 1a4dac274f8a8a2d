-- Nothing was flagged so far.
use Rattle.std.specs.Prelude.{take}
use Rattle.sweep.specs.Few.{AreUnflagged}
use Rattle.sweep.proofs.windows.are_unflagged.Given as goal

abbrev pub invariant-loop-flag : goal.invariant-loop-flag
invariant-loop-flag l = AreUnflagged (take l.flag-index l.flags)
