use Rattle.witness_make.specs.Made.{ArePartsBefore}
use Rattle.witness_make.proofs.making.parts_by.Given as goal

abbrev pub invariant-loop-number : goal.invariant-loop-number
invariant-loop-number l = ArePartsBefore l.scene l.setup l.cuts l.bad.start l.bad.x l.bad.y l.number l.parts.items
