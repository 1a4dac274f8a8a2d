-- The layers below the next one that changed are written.
use Rattle.std.proofs.Common.{◌≡◌, ◌≤◌, length, take}
use Rattle.paint_blend.specs.Kept.{AreChangedBelow}
use Rattle.paint_blend.proofs.kept.changed_in.Given as goal

abbrev pub invariant-loop-i : goal.invariant-loop-i
invariant-loop-i l = record {
  count : l.count ≤ l.i;
  long : length l.changed ≡ length l.fn.changed;
  are : AreChangedBelow l.before l.now l.i (take l.count l.changed);
}
