-- The states of the layers passed.
use Rattle.std.proofs.Common.{◌≡◌, ◌<◌, ℕ, false, Some, slice_get}
use Rattle.page_model.specs.declared.scene.Layer.{Layer}
use Rattle.page_model.specs.Enclosure.{IsLooseStateAt, own}
use Rattle.page_model.specs.LayerAt.{IsStateAt, State}
use Rattle.frame_state.specs.Scenes.{is_cubic}
use Rattle.frame_state.specs.States.{IsInSlots, known, states_as}
use Rattle.frame_state.proofs.layers.states_at.Given as goal

abbrev pub invariant-loop-i : goal.invariant-loop-i
invariant-loop-i l = record {
  exact : is_cubic l.scene ≡ false → (number : ℕ) (layer : Layer) (state : State) → number < l.i → slice_get l.scene.layers number ≡ Some layer
      → IsStateAt l.scene l.setup l.k layer state → states_as l.out number ≡ known state;
  own : (number : ℕ) (layer : Layer) → number < l.i → slice_get l.scene.layers number ≡ Some layer
      → IsLooseStateAt own l.scene l.setup l.k layer (states_as l.out number);
  ranges : (number : ℕ) → number < l.i → IsInSlots (states_as l.out number);
}
