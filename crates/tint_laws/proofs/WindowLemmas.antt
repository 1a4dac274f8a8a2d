-- Proofs of the laws of the windows of a scene.
use Rattle.std.proofs.Common.{◌≡◌, ℕ, ◌<◌, zero, suc, Bool, true, false, List, [], ◌∷◌, length, refl, arith}
use Rattle.std.specs.Prelude.{ℤ, pos, ◌≤ℤ◌, Option, Some, None, slice_get}
use Rattle.std.proofs.lemmas.Int.{ints}
use Rattle.page_model.specs.declared.setup.Setup.{Setup}
use Rattle.page_model.specs.declared.colour.Rgba.{Rgba}
use Rattle.page_model.specs.declared.easing.Easing.TheVariants.{Linear}
use Rattle.page_model.specs.declared.property.Prop.{Prop}
use Rattle.page_model.specs.declared.property.Prop.TheVariants.{Background, Opacity, Visibility, Left, Top, Width, Height}
use Rattle.page_model.specs.declared.property.Value.{Value}
use Rattle.page_model.specs.declared.scene.Layer.{Layer}
use Rattle.page_model.specs.declared.scene.Scene.{Scene}
use Rattle.page_model.specs.Colour.{Run, IsRunIn, painting_of}
use Rattle.page_model.specs.Enclosure.{Kind, Loose, LooseRun, Sureness, IsLooseChannelOn, IsLooseOn, IsShownSurely, IsSurelyShownWith}
use Rattle.page_model.specs.Fraction.{zero_of_one}
use Rattle.page_model.specs.LayerAt.{Course, still, moving, course_of, red_of, green_of, blue_of, cover_of, alpha_of, length_of, visible_of, IsChannelOn, IsValueOn, IsShownWith}
use Rattle.page_model.specs.Slot.{Shade, Slot, cover, alpha, position, extent}
use Rattle.page_model.specs.TintOf.{IsLooseRunIn, tints_of}
use Rattle.page_model.specs.ValidScene.{IsValid}
use Rattle.tint_laws.specs.NestLaws.{PixelsAreOf}
use Rattle.curve_laws.specs.SlotLaws.{IsWithin, Agrees}
use Rattle.tint_laws.specs.StateNestLaws.{LooseStatesHoldExact}
use Rattle.tint_laws.specs.TintLaws.{StateWithin}
use Rattle.tint_laws.specs.WindowLaws.{BadWindowsLieBetween}
use Rattle.tint_laws.proofs.CourseLemmas.{IsGoodCourse, good_course_of}
use Rattle.tint_laws.proofs.NestLemmas.{bad_windows_nest}
use Rattle.curve_laws.proofs.ChannelLemmas.{loose_channels_nest}
use Rattle.curve_laws.proofs.SlotLemmas.{loose_slots_nest, loose_shown_nests}
use Rattle.tint_laws.proofs.TintLemmas.{tints_hold_colours}

-- a value on a course
value-within : (kind : Kind) (slot : Slot) (part : Value → ℤ) (course : Course) (loose : Loose) (v : ℤ) → IsGoodCourse course
    → IsLooseOn kind slot part course loose → IsValueOn slot part course v → IsWithin loose v
value-within kind slot part (still x) loose v good is value =
    loose_slots_nest.exact_value kind slot Linear tt zero_of_one (part x) (part x) loose v is value
value-within kind slot part (moving interval) loose v good is value =
    loose_slots_nest.exact_value kind slot interval.easing good interval.distance (part interval.from) (part interval.to) loose v is value

-- a channel
channel-within : (kind : Kind) (part : Value → Shade) (course : Course) (loose : Loose) (v : ℤ) → IsGoodCourse course
    → IsLooseChannelOn kind part course loose → IsChannelOn part course v → IsWithin loose v
channel-within kind part (still x) loose v good is value = rw (is, value) (record { at_least = omega (arith, ints); at_most = omega (arith, ints) })
channel-within kind part (moving interval) loose v good is value =
    loose_channels_nest.exact_value kind interval.easing good interval.distance (part interval.from) (part interval.to) loose v is value

pub loose-most : (kind : Kind) (slot : Slot) (part : Value → ℤ) (course : Course) (loose : Loose) → IsLooseOn kind slot part course loose
    → loose.hi ≤ℤ slot.greatest
loose-most kind slot part (still x) loose is = is.greatest.at_most
loose-most kind slot part (moving interval) loose is = is.greatest.at_most

-- whether it is shown
still-agrees : (kind : Kind) (visible : Bool) (shown : Sureness) (seen : Bool) → IsShownSurely kind Linear zero_of_one visible visible shown
    → seen ≡ visible → Agrees shown seen
still-agrees kind true shown seen is value = rw (is, value) tt
still-agrees kind false shown seen is value = rw (is, value) tt

shown-within : (kind : Kind) (colour : Option Rgba) (course : Course) (shown : Sureness) (seen : Bool) → IsGoodCourse course
    → IsSurelyShownWith kind colour course shown → IsShownWith colour course seen → Agrees shown seen
shown-within kind None course shown seen good is value = rw (is, value) tt
shown-within kind (Some colour) (still x) shown seen good is value = still-agrees kind (visible_of x) shown seen is value
shown-within kind (Some colour) (moving interval) shown seen good is value =
    loose_shown_nests.exact_value kind interval.easing good interval.distance (visible_of interval.from) (visible_of interval.to) shown seen is value

-- a state of a layer
pub state-within : LooseStatesHoldExact
state-within kind scene setup frame number layer loose state valid is first second =
    let good = λ (prop : Prop). good_course_of scene setup frame number layer prop valid is in
    let background = course_of scene setup frame layer Background in
    let opacity = course_of scene setup frame layer Opacity in
    record {
      red = channel-within kind red_of background loose.red (pos state.red) (good Background) first.is_red second.is_red;
      green = channel-within kind green_of background loose.green (pos state.green) (good Background) first.is_green second.is_green;
      blue = channel-within kind blue_of background loose.blue (pos state.blue) (good Background) first.is_blue second.is_blue;
      cover = value-within kind cover cover_of background loose.cover (pos state.cover) (good Background) first.is_cover second.is_cover;
      solid = loose-most kind cover cover_of background loose.cover first.is_cover;
      alpha = value-within kind alpha alpha_of opacity loose.alpha (pos state.alpha) (good Opacity) first.is_alpha second.is_alpha;
      opaque = loose-most kind alpha alpha_of opacity loose.alpha first.is_alpha;
      shown = shown-within kind layer.colour (course_of scene setup frame layer Visibility) loose.shown state.shown (good Visibility) first.is_shown second.is_shown;
      left = value-within kind position length_of (course_of scene setup frame layer Left) loose.left state.left (good Left) first.is_left second.is_left;
      top = value-within kind position length_of (course_of scene setup frame layer Top) loose.top state.top (good Top) first.is_top second.is_top;
      width = value-within kind extent length_of (course_of scene setup frame layer Width) loose.width state.width (good Width) first.is_width second.is_width;
      height = value-within kind extent length_of (course_of scene setup frame layer Height) loose.height state.height (good Height) first.is_height second.is_height;
    }

-- there is a layer at each number below their length
pub layer-at : (layers : List Layer) (number : ℕ) → number < length layers → (layer : Layer) × (slice_get layers number ≡ Some layer)
layer-at [] number below = absurd (omega arith)
layer-at (layer ∷ rest) zero below = (layer, refl)
layer-at (layer ∷ rest) (suc number) below = layer-at rest number (omega arith)

pub colours-between : (scene : Scene) (setup : Setup) (start : ℕ) → IsValid scene → (kind : Kind) (loose : LooseRun) (run : Run)
    → IsLooseRunIn kind scene setup start loose → IsRunIn scene setup start run
    → PixelsAreOf setup start (tints_of scene loose) (painting_of scene run)
colours-between scene setup start valid kind loose run first second column row within below frame low high =
    tints_hold_colours scene valid (loose frame) (run frame)
    (λ number is_layer. let found = layer-at scene.layers number is_layer in of_layer number found.0 found.1) column row where
      of_layer : (number : ℕ) (layer : Layer) → slice_get scene.layers number ≡ Some layer → StateWithin (loose frame number) (run frame number)
      of_layer number layer is =
          state-within kind scene setup frame number layer (loose frame number) (run frame number) valid is
          (first frame number layer low high is) (second frame number layer low high is)

pub bad_windows_lie_between : BadWindowsLieBetween
bad_windows_lie_between = record {
  colours = colours-between;
  surely = λ scene setup start x y valid kind loose run first second bad.
      bad_windows_nest.so kind (tints_of scene loose) (painting_of scene run) setup start x y
      (colours-between scene setup start valid kind loose run first second) bad;
  possibly = λ scene setup start x y valid kind loose run first second bad.
      bad_windows_nest.possible kind (tints_of scene loose) (painting_of scene run) setup start x y
      (colours-between scene setup start valid kind loose run first second) bad;
}
