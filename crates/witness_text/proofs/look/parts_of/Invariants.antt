-- The parts found so far are those of the items read so far.
use Rattle.std.proofs.Common.{◌≡◌, map, take}
use Rattle.serde_json.specs.View.{view}
use Rattle.witness_text.specs.Look.{part_in}
use Rattle.witness_text.proofs.look.parts_of.Given as goal

abbrev pub invariant-loop-item : goal.invariant-loop-item
invariant-loop-item l = l.parts ≡ map part_in (map view (take l.item-index l.items))
