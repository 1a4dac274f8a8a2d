-- What was found by the animations behind those that are left.
use Rattle.std.proofs.Common.{◌≡◌, ◌-◌, Some, true, length, slice_get}
use Rattle.page_model.specs.declared.scene.Layer.{Layer}
use Rattle.layer_ways.specs.Found.{ForEdges, ForLook, is_last}
use Rattle.layer_ways.proofs.search.found_at.Given as goal

abbrev pub invariant-loop-i : goal.invariant-loop-i
invariant-loop-i l = record {
  edges : (layer : Layer) → slice_get l.scene.layers l.layer ≡ Some layer
      → ForEdges (is_last l.scene l.setup l.k layer l.anims (length l.anims - l.i)) l.found.edges l.found.edges;
  look : (layer : Layer) → slice_get l.scene.layers l.layer ≡ Some layer → l.whole ≡ true
      → ForLook (is_last l.scene l.setup l.k layer l.anims (length l.anims - l.i)) l.found.look l.found.look;
}
