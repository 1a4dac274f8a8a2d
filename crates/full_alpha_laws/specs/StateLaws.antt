-- In a valid scene whose alphas are full the states of layers are those of the former text, with a full cover where the layer has a
-- colour.
use Rattle.std.specs.Prelude.{ℕ, pos, Option, Some, None, ◌≡◌, ◌↔◌, slice_get}
use Rattle.page_model.specs.declared.colour.Rgba.{Rgba}
use Rattle.page_model.specs.declared.scene.Layer.{Layer}
use Rattle.page_model.specs.declared.scene.Scene.{Scene}
use Rattle.page_model.specs.declared.setup.Setup.{Setup}
use Rattle.page_model.specs.Enclosure.{Kind, LooseState, IsLooseStateAt, one_value}
use Rattle.page_model.specs.LayerAt.{State, IsStateAt}
use Rattle.page_model.specs.ValidScene.{IsValid}
use Rattle.full_alpha_laws.specs.FormerState.{IsFormerLooseAt, IsFormerStateAt}
use Rattle.full_alpha_laws.specs.FullAlpha.{HasFullAlpha}

-- the cover of a layer with a colour, or of none
abbrev pub cover_for : Option Rgba → ℕ
cover_for None = 0
cover_for (Some colour) = 255

abbrev pub StatesAreFormer : Type 0
StatesAreFormer =
    (scene : Scene) (setup : Setup) (frame number : ℕ) (layer : Layer) (state : State) → IsValid scene → HasFullAlpha scene
    → slice_get scene.layers number ≡ Some layer
    → IsStateAt scene setup frame layer state
    ↔ (IsFormerStateAt scene setup frame layer state × (state.cover ≡ cover_for layer.colour))

abbrev pub LooseStatesAreFormer : Type 0
LooseStatesAreFormer =
    (kind : Kind) (scene : Scene) (setup : Setup) (frame number : ℕ) (layer : Layer) (state : LooseState) → IsValid scene
    → HasFullAlpha scene → slice_get scene.layers number ≡ Some layer
    → IsLooseStateAt kind scene setup frame layer state
    ↔ (IsFormerLooseAt kind scene setup frame layer state × (state.cover ≡ one_value (pos (cover_for layer.colour))))
