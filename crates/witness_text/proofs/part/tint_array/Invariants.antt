-- The values made so far are those of the tints read so far.
use Rattle.std.proofs.Common.{◌≡◌, map, take}
use Rattle.serde_json.specs.View.{view}
use Rattle.witness_text.specs.PartValue.{tint_value}
use Rattle.witness_text.proofs.part.tint_array.Given as goal

abbrev pub invariant-loop-tint : goal.invariant-loop-tint
invariant-loop-tint l = map view l.items.items ≡ map tint_value (take l.tint-index l.tints)
