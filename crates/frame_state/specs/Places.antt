-- Where a layer is in a frame: the four slots of its state that tell its box.
use Rattle.std.specs.Prelude.{ℕ, ◌≡◌}
use Rattle.page_model.specs.declared.scene.Layer.{Layer}
use Rattle.page_model.specs.declared.scene.Scene.{Scene}
use Rattle.page_model.specs.declared.setup.Setup.{Setup}
use Rattle.page_model.specs.Enclosure.{IsLooseStateAt, Loose, LooseState, own}
use Rattle.page_model.specs.Slot.{extent, position}
use Rattle.slot_values.specs.Slots.{IsInSlot, loose_as}
use Rattle.frame_state.specs.declared.types.Place.{Place}

pub record LoosePlace : Type 0 where
  pub left : Loose
  pub top : Loose
  pub width : Loose
  pub height : Loose

abbrev pub place_as : Place → LoosePlace
place_as place = record {
  left = loose_as place.left;
  top = loose_as place.top;
  width = loose_as place.width;
  height = loose_as place.height;
}

-- those of a state
abbrev pub place_in : LooseState → LoosePlace
place_in state = record { left = state.left; top = state.top; width = state.width; height = state.height }

-- there is a state of the own kind of the layer in the frame, and of each such state these are the four slots
pub record IsOwnPlace (scene : Scene) (setup : Setup) (frame : ℕ) (layer : Layer) (place : LoosePlace) : Type 0 where
  pub state : LooseState
  pub is_own : IsLooseStateAt own scene setup frame layer state
  pub each : (other : LooseState) → IsLooseStateAt own scene setup frame layer other → place ≡ place_in other

-- each slot has its ends in order and in its range
pub record IsPlaceInSlots (place : LoosePlace) : Type 0 where
  pub left : IsInSlot position place.left
  pub top : IsInSlot position place.top
  pub width : IsInSlot extent place.width
  pub height : IsInSlot extent place.height
