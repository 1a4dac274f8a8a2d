-- A layer's state, and so a run and what is painted, where no easing is a curve.
use Rattle.std.proofs.Common.{◌≡◌, ℕ, ◌<◌, ℤ, pos, negsuc, ◌≤ℤ◌, Option, Some, None, slice_get, arith, refl, sym, subst}
use Rattle.std.proofs.lemmas.Int.{ints}
use Rattle.page_model.specs.declared.colour.Rgba.{Rgba}
use Rattle.page_model.specs.declared.easing.Easing.TheVariants.{Linear}
use Rattle.page_model.specs.declared.property.Prop.TheVariants.{Background, Opacity, Visibility, Left, Top, Width, Height}
use Rattle.page_model.specs.declared.property.Value.{Value}
use Rattle.page_model.specs.declared.scene.Layer.{Layer}
use Rattle.page_model.specs.declared.scene.Scene.{Scene}
use Rattle.page_model.specs.declared.setup.Setup.{Setup}
use Rattle.page_model.specs.Fraction.{zero_of_one}
use Rattle.page_model.specs.LayerAt.{Course, still, moving, IsChannelOn, IsStateAt, IsValueOn, IsShownOn, IsShownWith, State, alpha_of, blue_of, channel_on, course_of, cover_of, green_of, length_of, red_of, shown_on, shown_with, state_at, value_on, visible_of}
use Rattle.page_model.specs.Progress.{above_zero}
use Rattle.page_model.specs.Slot.{Shade, Slot, alpha, cover, extent, position}
use Rattle.page_model.specs.ValidScene.{IsValid}
use Rattle.safety_laws.specs.ComputedLaws.{HasNoCurve, RunIsComputed, SafetyIsComputed, StateIsComputed, computed_run}
use Rattle.safety_laws.proofs.ChannelLemmas.{channel-is}
use Rattle.safety_laws.proofs.CourseLemmas.{IsPlainOn, eased-positive, scene-plain}
use Rattle.safety_laws.proofs.RoundingLemmas.{shown-at, slot-is}
use Rattle.state_laws.proofs.RunLemmas.{channel_on-at_least, value-at_least}
use Rattle.safety_laws.proofs.SafetyLemmas.{safe-one_painting}
use Rattle.state_laws.proofs.UniqueLemmas.{state-unique}

value-is :
    (slot : Slot) (part : Value → ℤ) (course : Course) → 0 < slot.unit → slot.least ≤ℤ slot.greatest → IsPlainOn course
    → IsValueOn slot part course (value_on slot part course)
value-is slot part (still x) unit some plain = slot-is slot Linear zero_of_one (part x) (part x) tt unit some (omega arith)
value-is slot part (moving i) unit some plain =
    slot-is slot i.easing i.distance (part i.from) (part i.to) plain.easing.straight unit some
    (eased-positive i.easing i.distance plain.easing plain.distance)

natural-is :
    (slot : Slot) (part : Value → ℤ) (course : Course) → 0 < slot.unit → slot.least ≤ℤ slot.greatest → pos 0 ≤ℤ slot.least
    → IsPlainOn course → IsValueOn slot part course (pos (above_zero (value_on slot part course)))
natural-is slot part course unit some low plain =
    let good = value-is slot part course unit some plain in
    let least = value-at_least slot part course (value_on slot part course) good in
    subst (λ (v : ℤ). IsValueOn slot part course v) (natural (value_on slot part course) slot.least low least) good
  where
    natural : (v low : ℤ) → pos 0 ≤ℤ low → low ≤ℤ v → v ≡ pos (above_zero v)
    natural (pos n) low h k = refl
    natural (negsuc n) low h k = absurd (omega (arith, ints))

channel-on : (part : Value → Shade) (course : Course) → IsPlainOn course → IsChannelOn part course (channel_on part course)
channel-on part (still x) plain = refl
channel-on part (moving i) plain = channel-is i.easing i.distance (part i.from) (part i.to) plain.easing.straight

level-on : (part : Value → Shade) (course : Course) → IsPlainOn course → IsChannelOn part course (pos (above_zero (channel_on part course)))
level-on part course plain =
    let good = channel-on part course plain in
    let least = channel_on-at_least part course (channel_on part course) good in
    subst (λ (v : ℤ). IsChannelOn part course v) (natural (channel_on part course) least) good
  where
    natural : (v : ℤ) → pos 0 ≤ℤ v → v ≡ pos (above_zero v)
    natural (pos n) h = refl
    natural (negsuc n) h = absurd (omega (arith, ints))

shown_on-is : (course : Course) → IsPlainOn course → IsShownOn course (shown_on course)
shown_on-is (still x) plain = refl
shown_on-is (moving i) plain = shown-at i.easing i.distance (visible_of i.from) (visible_of i.to) plain.easing.straight

shown_with-is : (colour : Option Rgba) (course : Course) → IsPlainOn course → IsShownWith colour course (shown_with colour course)
shown_with-is None course plain = refl
shown_with-is (Some c) course plain = shown_on-is course plain

-- each part is the exact one
pub state-is :
    (scene : Scene) (setup : Setup) (frame number : ℕ) (layer : Layer) → IsValid scene → HasNoCurve scene
    → slice_get scene.layers number ≡ Some layer → IsStateAt scene setup frame layer (state_at scene setup frame layer)
state-is scene setup frame number layer valid none e =
    let fill = scene-plain scene setup frame number layer Background valid none e in
    let fill_course : Course = course_of scene setup frame layer Background in record {
      is_red = level-on red_of fill_course fill;
      is_green = level-on green_of fill_course fill;
      is_blue = level-on blue_of fill_course fill;
      is_cover = natural-is cover cover_of fill_course (omega arith) (omega (arith, ints)) (omega (arith, ints)) fill;
      is_alpha = natural-is alpha alpha_of (course_of scene setup frame layer Opacity) (omega arith) (omega (arith, ints)) (omega (arith, ints))
          (scene-plain scene setup frame number layer Opacity valid none e);
      is_shown = shown_with-is layer.colour (course_of scene setup frame layer Visibility)
          (scene-plain scene setup frame number layer Visibility valid none e);
      is_left = value-is position length_of (course_of scene setup frame layer Left) (omega arith) (omega (arith, ints))
          (scene-plain scene setup frame number layer Left valid none e);
      is_top = value-is position length_of (course_of scene setup frame layer Top) (omega arith) (omega (arith, ints))
          (scene-plain scene setup frame number layer Top valid none e);
      is_width = value-is extent length_of (course_of scene setup frame layer Width) (omega arith) (omega (arith, ints))
          (scene-plain scene setup frame number layer Width valid none e);
      is_height = value-is extent length_of (course_of scene setup frame layer Height) (omega arith) (omega (arith, ints))
          (scene-plain scene setup frame number layer Height valid none e);
    }

pub state-computed : StateIsComputed
state-computed scene setup frame number layer state valid none e = (
  λ good. state-unique scene setup frame layer state (state_at scene setup frame layer) good (state-is scene setup frame number layer valid none e),
  λ same. subst (λ (s : State). IsStateAt scene setup frame layer s) (sym same) (state-is scene setup frame number layer valid none e),
)

pub run-computed : RunIsComputed
run-computed scene setup start valid none frame number layer low high e =
    rw e (state-is scene setup frame number layer valid none e)

pub safety-computed : SafetyIsComputed
safety-computed scene setup valid none =
    safe-one_painting scene setup (computed_run scene setup) valid (λ start. run-computed scene setup start valid none)
