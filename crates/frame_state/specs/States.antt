-- The state of a layer as the code has it, seen as the definitions have it.
use Rattle.std.specs.Prelude.{ℕ, pos, Bool, true, false, Option, None, Some, ◌≡◌, ◌<◌, List, length, slice_get, option_map, unwrap_or}
use Rattle.page_model.specs.declared.colour.Rgba.{Rgba}
use Rattle.page_model.specs.declared.property.Prop.{Prop}
use Rattle.page_model.specs.declared.property.Prop.TheVariants.{Background, Opacity, Visibility, Left, Top, Width, Height}
use Rattle.page_model.specs.declared.scene.Layer.{Layer}
use Rattle.page_model.specs.declared.scene.Scene.{Scene}
use Rattle.page_model.specs.declared.setup.Setup.{Setup}
use Rattle.page_model.specs.Enclosure.{LooseState, one_value, Sureness, surely, surely_not, own, IsLooseStateAt}
use Rattle.page_model.specs.LayerAt.{IsStateAt, State, red_of, green_of, blue_of, cover_of, alpha_of, length_of}
use Rattle.page_model.specs.Slot.{cover, alpha, position, extent}
pub use Rattle.slot_values.specs.Channels.{eight_bits}
pub use Rattle.slot_values.specs.Slots.{IsInSlot, loose_as, slot_as}
pub use Rattle.layer_ways.specs.Ways.{sureness_of}
use Rattle.frame_state.specs.declared.types.LayerState.{LayerState}
use Rattle.layer_ways.specs.Ways.{Way, channel_by, value_by, shown_by}

abbrev pub state_as : LayerState → LooseState
state_as state = record {
  red = loose_as state.r;
  green = loose_as state.g;
  blue = loose_as state.b;
  cover = loose_as state.cover;
  alpha = loose_as state.alpha;
  shown = sureness_of state.shown;
  left = loose_as state.left;
  top = loose_as state.top;
  width = loose_as state.width;
  height = loose_as state.height;
}

-- one truth as a loose one
abbrev pub sure_of : Bool → Sureness
sure_of true = surely
sure_of false = surely_not

-- a state that is known: both ends are the value
abbrev pub known : State → LooseState
known state = record {
  red = one_value (pos state.red);
  green = one_value (pos state.green);
  blue = one_value (pos state.blue);
  cover = one_value (pos state.cover);
  alpha = one_value (pos state.alpha);
  shown = sure_of state.shown;
  left = one_value state.left;
  top = one_value state.top;
  width = one_value state.width;
  height = one_value state.height;
}

-- each value of a state has its ends in order and in the range of its slot
pub record IsInSlots (state : LooseState) : Type 0 where
  pub red : IsInSlot eight_bits state.red
  pub green : IsInSlot eight_bits state.green
  pub blue : IsInSlot eight_bits state.blue
  pub cover : IsInSlot eight_bits state.cover
  pub alpha : IsInSlot eight_bits state.alpha
  pub left : IsInSlot position state.left
  pub top : IsInSlot position state.top
  pub width : IsInSlot extent state.width
  pub height : IsInSlot extent state.height

-- the states of layers by number; of a layer that isn't there nothing is shown
abbrev pub nothing : LooseState
nothing = record {
  red = one_value (pos 0);
  green = one_value (pos 0);
  blue = one_value (pos 0);
  cover = one_value (pos 0);
  alpha = one_value (pos 0);
  shown = surely_not;
  left = one_value (pos 0);
  top = one_value (pos 0);
  width = one_value (pos 0);
  height = one_value (pos 0);
}

abbrev pub states_as : List LayerState → ℕ → LooseState
states_as states number = unwrap_or (option_map state_as (slice_get states number)) nothing

-- the states of all layers are those of the own kind; and they are the exact states, whatever these are
abbrev pub AreOwn : Scene → Setup → ℕ → (ℕ → LooseState) → Type 0
AreOwn scene setup frame states =
    (number : ℕ) (layer : Layer) → slice_get scene.layers number ≡ Some layer → IsLooseStateAt own scene setup frame layer (states number)

abbrev pub AreExact : Scene → Setup → ℕ → (ℕ → LooseState) → Type 0
AreExact scene setup frame states =
    (number : ℕ) (layer : Layer) (state : State) → slice_get scene.layers number ≡ Some layer → IsStateAt scene setup frame layer state
    → states number ≡ known state

-- the states of all layers are within their slots
abbrev pub AreInSlots : Scene → (ℕ → LooseState) → Type 0
AreInSlots scene states = (number : ℕ) → number < length scene.layers → IsInSlots (states number)

-- a state by the ways of its properties
abbrev pub sure_with : Option Rgba → Way → Sureness
sure_with None way = surely_not
sure_with (Some colour) way = shown_by way

abbrev pub state_by : Layer → (Prop → Way) → LooseState
state_by layer way = record {
  red = channel_by red_of (way Background);
  green = channel_by green_of (way Background);
  blue = channel_by blue_of (way Background);
  cover = value_by cover cover_of (way Background);
  alpha = value_by alpha alpha_of (way Opacity);
  shown = sure_with layer.colour (way Visibility);
  left = value_by position length_of (way Left);
  top = value_by position length_of (way Top);
  width = value_by extent length_of (way Width);
  height = value_by extent length_of (way Height);
}
