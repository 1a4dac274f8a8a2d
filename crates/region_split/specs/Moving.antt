-- Whether a layer may move or grow: the set of one of its animations names a place or a size. This is the project's own.
use Rattle.std.specs.Prelude.{ℕ, ◌≡◌, Bool, false, Option, None, Some, ◌||◌, List, slice_get}
use Rattle.std.specs.List.{list_any}
use Rattle.page_model.specs.declared.animation.Anim.{Anim}
use Rattle.page_model.specs.declared.keyframe.KeyframeSet.{KeyframeSet}
use Rattle.page_model.specs.declared.property.Prop.TheVariants.{Left, Top, Width, Height}
use Rattle.page_model.specs.declared.scene.Layer.{Layer}
use Rattle.page_model.specs.declared.scene.Scene.{Scene}
use Rattle.page_model.specs.declared.setup.Setup.{Setup}
use Rattle.page_model.specs.Enclosure.{IsLooseStateAt, LooseState, own}
use Rattle.page_model.specs.Keyframes.{names}

-- a set names a place or a size
abbrev pub names_edge : KeyframeSet → Bool
names_edge set = names Left set.frames || (names Top set.frames || (names Width set.frames || names Height set.frames))

-- there is a set, and it does
abbrev pub some_names_edge : Option KeyframeSet → Bool
some_names_edge None = false
some_names_edge (Some set) = names_edge set

-- the set of an animation does
abbrev pub moves : List KeyframeSet → Anim → Bool
moves sets anim = some_names_edge (slice_get sets anim.set)

-- the set of some animation of the layer does
abbrev pub may_move : List KeyframeSet → Layer → Bool
may_move sets layer = list_any (moves sets) layer.anims

-- two states have a layer in one place, in one size
pub record AreInOnePlace (state again : LooseState) : Type 0 where
  pub left : state.left ≡ again.left
  pub width : state.width ≡ again.width
  pub top : state.top ≡ again.top
  pub height : state.height ≡ again.height

-- a layer is in one place in all frames, whatever its states of the own kind are
abbrev pub StaysPut : Scene → Layer → Type 0
StaysPut scene layer =
    (setup : Setup) (frame other : ℕ) (state again : LooseState) → IsLooseStateAt own scene setup frame layer state
    → IsLooseStateAt own scene setup other layer again → AreInOnePlace state again
