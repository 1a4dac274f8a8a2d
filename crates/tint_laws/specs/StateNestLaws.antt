-- A layer's exact state lies in its loose one by each kind, and its loose state by the own kind in that by the wide kind.
use Rattle.std.specs.Prelude.{ℕ, Some, ◌≡◌, slice_get}
use Rattle.page_model.specs.declared.setup.Setup.{Setup}
use Rattle.page_model.specs.declared.scene.Layer.{Layer}
use Rattle.page_model.specs.declared.scene.Scene.{Scene}
use Rattle.page_model.specs.Enclosure.{Kind, own, wide, LooseState, IsLooseStateAt}
use Rattle.page_model.specs.LayerAt.{State, IsStateAt}
use Rattle.page_model.specs.ValidScene.{IsValid}
use Rattle.tint_laws.specs.TintLaws.{StateWithin, LooseStateWithin}

abbrev pub LooseStatesHoldExact : Type 0
LooseStatesHoldExact =
    (kind : Kind) (scene : Scene) (setup : Setup) (frame number : ℕ) (layer : Layer) (loose : LooseState) (state : State)
    → IsValid scene → slice_get scene.layers number ≡ Some layer → IsLooseStateAt kind scene setup frame layer loose
    → IsStateAt scene setup frame layer state → StateWithin loose state

abbrev pub KindsOfStatesNest : Type 0
KindsOfStatesNest =
    (scene : Scene) (setup : Setup) (frame number : ℕ) (layer : Layer) (outer inner : LooseState)
    → IsValid scene → slice_get scene.layers number ≡ Some layer → IsLooseStateAt wide scene setup frame layer outer
    → IsLooseStateAt own scene setup frame layer inner → LooseStateWithin outer inner
