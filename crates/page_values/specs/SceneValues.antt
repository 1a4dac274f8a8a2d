-- States and colours in single frames of small pages, from their layers to a pixel: what is told of each page is what a worked run
-- of the program prints.
use Rattle.std.specs.Prelude.{ℕ, ℤ, pos, neg_ℤ, Bool, true, false, Option, Some, None, ◌≡◌, ◌==◌, List, [], ◌∷◌, if◌then◌else◌}
use Rattle.page_model.specs.declared.animation.Anim.{Anim}
use Rattle.page_model.specs.declared.animation.Count.TheVariants.{Times, Infinite}
use Rattle.page_model.specs.declared.animation.Direction.TheVariants.{Normal, Alternate}
use Rattle.page_model.specs.declared.animation.Fill.TheVariants.{Absent, Forwards}
use Rattle.page_model.specs.declared.colour.Rgba.{Rgba}
use Rattle.page_model.specs.declared.easing.Easing.TheVariants.{Steps}
use Rattle.page_model.specs.declared.easing.Jump.TheVariants.{Neither}
use Rattle.page_model.specs.declared.keyframe.Keyframe.{Keyframe}
use Rattle.page_model.specs.declared.keyframe.KeyframeSet.{KeyframeSet}
use Rattle.page_model.specs.declared.property.Prop.{Prop}
use Rattle.page_model.specs.declared.property.Prop.TheVariants as prop
use Rattle.page_model.specs.declared.property.Value.{Value}
use Rattle.page_model.specs.declared.property.Value.TheVariants as value
use Rattle.page_model.specs.declared.scene.Held.{Held}
use Rattle.page_model.specs.declared.scene.Layer.{Layer}
use Rattle.page_model.specs.declared.scene.Scene.{Scene}
use Rattle.page_model.specs.Colour.{painted}
use Rattle.page_model.specs.LayerAt.{State, IsStateAt}
use Rattle.page_values.specs.Colours.{opaque_grey}
use Rattle.time_values.specs.Examples.{at_rate, animation, grey}

-- no property is important, or the background alone
abbrev pub held : Bool → Held
held background = record {
  background = background;
  opacity = false;
  visibility = false;
  left = false;
  top = false;
  width = false;
  height = false;
}

-- a body, of a colour or without one
abbrev pub body : Option Rgba → Bool → List Anim → Layer
body colour important anims = record {
  colour = colour;
  opacity = 1000;
  shown = true;
  left = pos 0;
  top = pos 0;
  width = pos 0;
  height = pos 0;
  z = pos 0;
  important = held important;
  anims = anims;
}

-- a black box of 20 by 20 pixels
abbrev pub black_box : ℤ → ℤ → ℕ → List Anim → Layer
black_box left top opacity anims = record {
  colour = Some (opaque_grey 0);
  opacity = opacity;
  shown = true;
  left = left;
  top = top;
  width = pos 2000;
  height = pos 2000;
  z = pos 0;
  important = held false;
  anims = anims;
}

-- a keyframe that sets one property
abbrev pub keyframe : ℕ → Prop → Value → Keyframe
keyframe offset name v = record { offset = offset; easing = None; values = record { prop = name; value = v } ∷ [] }

-- a page of a body and a box, whose second layer is the box
abbrev pub with_box : Layer → List KeyframeSet → Scene
with_box box sets = record { layers = body None false [] ∷ (box ∷ []); order = 1 ∷ []; sets = sets }

-- a body without a colour isn't shown
abbrev pub body_state : State
body_state = record {
  red = 0;
  green = 0;
  blue = 0;
  cover = 0;
  alpha = 255;
  shown = false;
  left = pos 0;
  top = pos 0;
  width = pos 0;
  height = pos 0;
}

abbrev pub box_state : ℕ → ℤ → ℤ → State
box_state alpha left top = record {
  red = 0;
  green = 0;
  blue = 0;
  cover = 255;
  alpha = alpha;
  shown = true;
  left = left;
  top = top;
  width = pos 20;
  height = pos 20;
}

-- the states of such a page
abbrev pub states_with : State → ℕ → State
states_with box number = if number == 0 then body_state else box

-- half transparent, at -10.5 pixels from the left: rounded it ends at column 9
abbrev pub half_box : Layer
half_box = black_box (neg_ℤ (pos 1050)) (pos 0) 500 []

abbrev pub half_states : ℕ → State
half_states = states_with (box_state 128 (neg_ℤ (pos 10)) (pos 0))

pub record HalfBox : Type 0 where
  pub body_is : IsStateAt (with_box half_box []) (at_rate 60) 0 (body None false []) body_state
  pub box_is : IsStateAt (with_box half_box []) (at_rate 60) 0 half_box (box_state 128 (neg_ℤ (pos 10)) (pos 0))
  pub last_column : painted (with_box half_box []) half_states 9 0 ≡ grey 0x7f
  pub behind_it : painted (with_box half_box []) half_states 10 0 ≡ grey 0xff
  pub last_row : painted (with_box half_box []) half_states 0 19 ≡ grey 0x7f
  pub below_it : painted (with_box half_box []) half_states 0 20 ≡ grey 0xff

-- from 10 to 11 pixels in two seconds and back: half way it is at 10.5, which is rounded up
abbrev pub sliding_box : Layer
sliding_box = black_box (pos 1000) (pos 1000) 1000 (animation 2000 (pos 0) Infinite Alternate Absent ∷ [])

abbrev pub sliding : Scene
sliding = with_box sliding_box (record { frames = keyframe 10000 prop.Left (value.Length (pos 1100)) ∷ [] } ∷ [])

pub record SlidingBox : Type 0 where
  pub before : IsStateAt sliding (at_rate 60) 59 sliding_box (box_state 255 (pos 10) (pos 10))
  pub half_way : IsStateAt sliding (at_rate 60) 60 sliding_box (box_state 255 (pos 11) (pos 10))
  pub covered : painted sliding (states_with (box_state 255 (pos 10) (pos 10))) 10 10 ≡ grey 0
  pub uncovered : painted sliding (states_with (box_state 255 (pos 11) (pos 10))) 10 10 ≡ grey 0xff

-- a body from black to white
abbrev pub black_to_white : KeyframeSet
black_to_white = record {
  frames =
      keyframe 0 prop.Background (value.Colour (opaque_grey 0)) ∷ (keyframe 10000 prop.Background (value.Colour (opaque_grey 0xff)) ∷ []);
}

abbrev pub lamp_body : Bool → Anim → Layer
lamp_body important anim = body (Some (opaque_grey 0)) important (anim ∷ [])

abbrev pub lamp : Bool → Anim → Scene
lamp important anim = record { layers = lamp_body important anim ∷ []; order = []; sets = black_to_white ∷ [] }

abbrev pub lamp_state : ℕ → State
lamp_state level = record {
  red = level;
  green = level;
  blue = level;
  cover = 255;
  alpha = 255;
  shown = true;
  left = pos 0;
  top = pos 0;
  width = pos 0;
  height = pos 0;
}

-- in a frame, at a rate of 60, the body is a grey
abbrev IsGrey : Bool → Anim → ℕ → ℕ → Type 0
IsGrey important anim frame level =
    IsStateAt (lamp important anim) (at_rate 60) frame (lamp_body important anim) (lamp_state level)

-- one and a half times in a second each, and back: `1s linear 1.5 alternate forwards`
abbrev pub back_half : Anim
back_half = animation 1000 (pos 0) (Times 1500) Alternate Forwards

-- `900ms steps(3, jump-none) forwards`
abbrev pub three_steps : Anim
three_steps = record (animation 900 (pos 0) (Times 1000) Normal Forwards) { easing = Steps 3 Neither }

pub record LampStates : Type 0 where
  pub on_the_way_back : IsGrey false back_half 75 0xbf
  pub at_the_end : IsGrey false back_half 90 0x80
  pub long_after : IsGrey false back_half 5000 0x80
  pub first_step : IsGrey false three_steps 17 0
  pub second_step : IsGrey false three_steps 18 0x80
  pub third_step : IsGrey false three_steps 36 0xff
  pub important : IsGrey true three_steps 36 0
  pub painted_alike : painted (lamp false back_half) (λ number. lamp_state 0xbf) 7 7 ≡ grey 0xbf
