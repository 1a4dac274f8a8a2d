-- A layer in a frame: for each property the value of the last animation in the layer's list that has an effect and names it,
-- unless the winning declaration is important; else the declared value. CSS Animations Level 1, with the cascade's rule that an
-- important declaration beats an animation. Which value a property has, or between which two it is, is computed; the whole values
-- that follow are relations, since a curve's value is no fraction.
use Rattle.std.specs.Prelude.{ℕ, ℤ, pos, Bool, true, false, Option, Some, None, ◌≡◌, ◌*◌, List, filter_map, slice_get, option_and_then, unwrap_or, if◌then◌else◌}
use Rattle.page_model.specs.declared.setup.Setup.{Setup}
use Rattle.page_model.specs.declared.colour.Rgba.{Rgba}
use Rattle.page_model.specs.declared.easing.Easing.TheVariants.{Linear}
use Rattle.page_model.specs.declared.animation.Anim.{Anim}
use Rattle.page_model.specs.declared.keyframe.KeyframeSet.{KeyframeSet}
use Rattle.page_model.specs.declared.property.Prop.{Prop}
use Rattle.page_model.specs.declared.property.Prop.TheVariants.{Background, Opacity, Visibility, Left, Top, Width, Height}
use Rattle.page_model.specs.declared.property.Value.{Value}
use Rattle.page_model.specs.declared.property.Value.TheVariants as value
use Rattle.page_model.specs.declared.scene.Held.{Held}
use Rattle.page_model.specs.declared.scene.Layer.{Layer}
use Rattle.page_model.specs.declared.scene.Scene.{Scene}
use Rattle.page_model.specs.Curve.{eased}
use Rattle.page_model.specs.Fraction.{zero_of_one}
use Rattle.page_model.specs.Keyframes.{Interval, interval_of, last_of}
use Rattle.page_model.specs.Progress.{above_zero, progress_of}
use Rattle.page_model.specs.Slot.{Slot, Shade, cover, alpha, position, extent, IsSlotValue, IsChannelValue, IsShownValue, own_level, slot_value, channel_value, shown_value}

-- the colour that stands for none: no layer without a colour is painted
abbrev pub no_colour : Rgba
no_colour = record { r = 0; g = 0; b = 0; a = 0 }

-- the declared value of a property
abbrev pub declared : Layer → Prop → Value
declared layer Background = value.Colour (unwrap_or layer.colour no_colour)
declared layer Opacity = value.Opacity layer.opacity
declared layer Visibility = value.Shown layer.shown
declared layer Left = value.Length layer.left
declared layer Top = value.Length layer.top
declared layer Width = value.Length layer.width
declared layer Height = value.Length layer.height

-- whether the winning declaration of a property is important
abbrev pub is_held : Held → Prop → Bool
is_held held Background = held.background
is_held held Opacity = held.opacity
is_held held Visibility = held.visibility
is_held held Left = held.left
is_held held Top = held.top
is_held held Width = held.width
is_held held Height = held.height

-- the interval in which an animation has a property at a frame, or none where it has no effect or doesn't name it
abbrev pub interval_at : List KeyframeSet → Setup → ℕ → Prop → Value → Anim → Option Interval
interval_at sets setup frame prop own anim =
    option_and_then
    (λ (set : KeyframeSet). option_and_then (interval_of set.frames prop own anim.easing) (progress_of setup anim frame))
    (slice_get sets anim.set)

-- the course of a property: it stays at a value, or is on its way from one to another
pub data Course : Type 0 where
  still : Value → Course
  moving : Interval → Course

abbrev pub course_by : Value → Option Interval → Course
course_by own None = still own
course_by own (Some interval) = moving interval

-- the course of a layer's property at a frame
abbrev pub course_of : Scene → Setup → ℕ → Layer → Prop → Course
course_of scene setup frame layer prop =
    if is_held layer.important prop then still (declared layer prop)
    else course_by (declared layer prop)
    (last_of (filter_map (interval_at scene.sets setup frame prop (declared layer prop)) layer.anims))

-- the parts of a value: the channels of a colour with its alpha, its alpha in parts of 255,000, 255 times the thousandths of an
-- opacity, the hundredths of a length
abbrev pub colour_in : Value → Rgba
colour_in (value.Colour c) = c
colour_in (value.Opacity thousandths) = no_colour
colour_in (value.Shown visible) = no_colour
colour_in (value.Length hundredths) = no_colour

abbrev pub red_of : Value → Shade
red_of x = record { level = (colour_in x).r; alpha = (colour_in x).a }

abbrev pub green_of : Value → Shade
green_of x = record { level = (colour_in x).g; alpha = (colour_in x).a }

abbrev pub blue_of : Value → Shade
blue_of x = record { level = (colour_in x).b; alpha = (colour_in x).a }

abbrev pub cover_of : Value → ℤ
cover_of x = pos (colour_in x).a

abbrev pub alpha_of : Value → ℤ
alpha_of (value.Colour c) = pos 0
alpha_of (value.Opacity thousandths) = pos (255 * thousandths)
alpha_of (value.Shown visible) = pos 0
alpha_of (value.Length hundredths) = pos 0

abbrev pub length_of : Value → ℤ
length_of (value.Colour c) = pos 0
length_of (value.Opacity thousandths) = pos 0
length_of (value.Shown visible) = pos 0
length_of (value.Length hundredths) = hundredths

abbrev pub visible_of : Value → Bool
visible_of (value.Colour c) = true
visible_of (value.Opacity thousandths) = true
visible_of (value.Shown visible) = visible
visible_of (value.Length hundredths) = true

-- the value that a slot takes on a course; at a still value it is on its way from that value to itself
abbrev pub IsValueOn : Slot → (Value → ℤ) → Course → ℤ → Type 0
IsValueOn slot part (still x) v = IsSlotValue slot Linear zero_of_one (part x) (part x) v
IsValueOn slot part (moving interval) v =
    IsSlotValue slot interval.easing interval.distance (part interval.from) (part interval.to) v

-- the value that a channel takes on a course: without animation it is the colour's own, also where that is transparent
abbrev pub IsChannelOn : (Value → Shade) → Course → ℤ → Type 0
IsChannelOn part (still x) v = v ≡ own_level (part x)
IsChannelOn part (moving interval) v =
    IsChannelValue interval.easing interval.distance (part interval.from) (part interval.to) v

abbrev pub IsShownOn : Course → Bool → Type 0
IsShownOn (still x) shown = shown ≡ visible_of x
IsShownOn (moving interval) shown =
    IsShownValue interval.easing interval.distance (visible_of interval.from) (visible_of interval.to) shown

-- a layer without a colour, which only a body may be, isn't shown
abbrev pub IsShownWith : Option Rgba → Course → Bool → Type 0
IsShownWith None course shown = shown ≡ false
IsShownWith (Some colour) course shown = IsShownOn course shown

-- a layer in a frame: the channels and the cover of its colour and the alpha of its opacity, each from 0 to 255, whether it is
-- shown, and its box in whole pixels
pub record State : Type 0 where
  pub red : ℕ
  pub green : ℕ
  pub blue : ℕ
  pub cover : ℕ
  pub alpha : ℕ
  pub shown : Bool
  pub left : ℤ
  pub top : ℤ
  pub width : ℤ
  pub height : ℤ

-- the exact state of a layer in a frame
pub record IsStateAt (scene : Scene) (setup : Setup) (frame : ℕ) (layer : Layer) (state : State) : Type 0 where
  pub is_red : IsChannelOn red_of (course_of scene setup frame layer Background) (pos state.red)
  pub is_green : IsChannelOn green_of (course_of scene setup frame layer Background) (pos state.green)
  pub is_blue : IsChannelOn blue_of (course_of scene setup frame layer Background) (pos state.blue)
  pub is_cover : IsValueOn cover cover_of (course_of scene setup frame layer Background) (pos state.cover)
  pub is_alpha : IsValueOn alpha alpha_of (course_of scene setup frame layer Opacity) (pos state.alpha)
  pub is_shown : IsShownWith layer.colour (course_of scene setup frame layer Visibility) state.shown
  pub is_left : IsValueOn position length_of (course_of scene setup frame layer Left) state.left
  pub is_top : IsValueOn position length_of (course_of scene setup frame layer Top) state.top
  pub is_width : IsValueOn extent length_of (course_of scene setup frame layer Width) state.width
  pub is_height : IsValueOn extent length_of (course_of scene setup frame layer Height) state.height

-- the same, computed: the value that a slot or a channel takes on a course, whether a layer is shown, and its state. They are the
-- exact ones where no easing is a curve.
abbrev pub value_on : Slot → (Value → ℤ) → Course → ℤ
value_on slot part (still x) = slot_value slot (part x) (part x) zero_of_one
value_on slot part (moving interval) =
    slot_value slot (part interval.from) (part interval.to) (eased interval.easing interval.distance)

abbrev pub channel_on : (Value → Shade) → Course → ℤ
channel_on part (still x) = own_level (part x)
channel_on part (moving interval) =
    channel_value (part interval.from) (part interval.to) (eased interval.easing interval.distance)

abbrev pub shown_on : Course → Bool
shown_on (still x) = visible_of x
shown_on (moving interval) =
    shown_value (visible_of interval.from) (visible_of interval.to) (eased interval.easing interval.distance)

abbrev pub shown_with : Option Rgba → Course → Bool
shown_with None course = false
shown_with (Some colour) course = shown_on course

abbrev pub state_at : Scene → Setup → ℕ → Layer → State
state_at scene setup frame layer = record {
  red = above_zero (channel_on red_of (course_of scene setup frame layer Background));
  green = above_zero (channel_on green_of (course_of scene setup frame layer Background));
  blue = above_zero (channel_on blue_of (course_of scene setup frame layer Background));
  cover = above_zero (value_on cover cover_of (course_of scene setup frame layer Background));
  alpha = above_zero (value_on alpha alpha_of (course_of scene setup frame layer Opacity));
  shown = shown_with layer.colour (course_of scene setup frame layer Visibility);
  left = value_on position length_of (course_of scene setup frame layer Left);
  top = value_on position length_of (course_of scene setup frame layer Top);
  width = value_on extent length_of (course_of scene setup frame layer Width);
  height = value_on extent length_of (course_of scene setup frame layer Height);
}
