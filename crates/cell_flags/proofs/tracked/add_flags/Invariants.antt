use Rattle.std.proofs.Common.{◌+◌}
use Rattle.cell_flags.specs.Flags.{AddsFlags, IsTracking}
use Rattle.cell_flags.proofs.tracked.add_flags.Given as goal

abbrev pub invariant-loop-start : goal.invariant-loop-start
invariant-loop-start l = record {
  tracking : IsTracking l.tints l.cells l.cell l.rate (l.start + l.rate) l.tracker;
  added : AddsFlags l.tints l.cells l.cell l.rate l.start l.initial.flags.items l.flags.items;
}
