-- The values made so far are those of the parts read so far.
use Rattle.std.proofs.Common.{◌≡◌, map, take}
use Rattle.serde_json.specs.View.{view}
use Rattle.witness_text.specs.PartValue.{part_value}
use Rattle.witness_text.proofs.text.part_array.Given as goal

abbrev pub invariant-loop-part : goal.invariant-loop-part
invariant-loop-part l = map view l.items.items ≡ map part_value (take l.part-index l.parts)
