-- The flags so far are nested.
use Rattle.std.specs.Prelude.{take}
use Rattle.sweep.specs.Few.{AreNested}
use Rattle.sweep.proofs.windows.are_nested.Given as goal

abbrev pub invariant-loop-flag : goal.invariant-loop-flag
invariant-loop-flag l = AreNested (take l.flag-index l.flags)
