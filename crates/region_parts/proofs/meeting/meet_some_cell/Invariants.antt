-- No cell lies in one of the areas so far.
use Rattle.std.proofs.Common.{take}
use Rattle.region_parts.specs.Joining.{MeetSomeCell}
use Rattle.region_parts.proofs.meeting.meet_some_cell.Given as goal

abbrev pub invariant-loop-area : goal.invariant-loop-area
invariant-loop-area l = MeetSomeCell l.cuts (take l.area-index l.areas) → ⊥
