-- The values made so far are those of the frames read so far.
use Rattle.std.proofs.Common.{◌≡◌, map, take}
use Rattle.serde_json.specs.View.{view}
use Rattle.witness_text.specs.PartValue.{natural}
use Rattle.witness_text.proofs.part.frame_array.Given as goal

abbrev pub invariant-loop-frame : goal.invariant-loop-frame
invariant-loop-frame l = map view l.items.items ≡ map natural (take l.frame-index l.frames)
