-- Proofs that the kinds of bad windows of a scene nest.
use Rattle.std.proofs.Common.{ℕ, arith}
use Rattle.std.proofs.lemmas.Int.{ints}
use Rattle.std.specs.Prelude.{ℤ, Option, Some, None}
use Rattle.page_model.specs.declared.setup.Setup.{Setup}
use Rattle.page_model.specs.declared.colour.Rgba.{Rgba}
use Rattle.page_model.specs.declared.easing.Easing.TheVariants.{Linear}
use Rattle.page_model.specs.declared.property.Prop.{Prop}
use Rattle.page_model.specs.declared.property.Prop.TheVariants.{Background, Opacity, Visibility, Left, Top, Width, Height}
use Rattle.page_model.specs.declared.property.Value.{Value}
use Rattle.page_model.specs.declared.scene.Scene.{Scene}
use Rattle.page_model.specs.Enclosure.{own, wide, Loose, LooseRun, Sureness, IsLooseChannelOn, IsLooseOn, IsSurelyShownWith}
use Rattle.page_model.specs.Fraction.{zero_of_one}
use Rattle.page_model.specs.LayerAt.{Course, still, moving, course_of, red_of, green_of, blue_of, cover_of, alpha_of, length_of, visible_of}
use Rattle.page_model.specs.Slot.{Shade, Slot, cover, alpha, position, extent}
use Rattle.page_model.specs.TintOf.{IsLooseRunIn, tints_of}
use Rattle.page_model.specs.ValidScene.{IsValid}
use Rattle.tint_laws.specs.NestLaws.{PixelsLieIn}
use Rattle.curve_laws.specs.SlotLaws.{IsLooser}
use Rattle.tint_laws.specs.StateNestLaws.{KindsOfStatesNest}
use Rattle.tint_laws.specs.TintLaws.{LooseIn}
use Rattle.tint_laws.specs.WindowLaws.{KindsOfBadWindowsNest}
use Rattle.tint_laws.proofs.CourseLemmas.{IsGoodCourse, good_course_of}
use Rattle.tint_laws.proofs.NestLemmas.{bad_windows_nest}
use Rattle.curve_laws.proofs.ChannelLemmas.{loose_channels_nest}
use Rattle.curve_laws.proofs.SlotLemmas.{loose_slots_nest, loose_shown_nests}
use Rattle.tint_laws.proofs.TintNestLemmas.{tints_hold_tints}
use Rattle.tint_laws.proofs.WindowLemmas.{layer-at, loose-most}

-- a loose value on a course
loose-in : (slot : Slot) (part : Value → ℤ) (course : Course) (outer inner : Loose) → IsGoodCourse course
    → IsLooseOn wide slot part course outer → IsLooseOn own slot part course inner → LooseIn outer inner
loose-in slot part (still x) outer inner good first second = record {
  within = loose_slots_nest.own_in_wide slot Linear tt zero_of_one (part x) (part x) outer inner first second;
  order = loose_slots_nest.in_order own slot Linear tt zero_of_one (part x) (part x) inner second;
}
loose-in slot part (moving interval) outer inner good first second = record {
  within = loose_slots_nest.own_in_wide slot interval.easing good interval.distance (part interval.from) (part interval.to) outer inner first second;
  order = loose_slots_nest.in_order own slot interval.easing good interval.distance (part interval.from) (part interval.to) inner second;
}

-- a loose channel
channel-in : (part : Value → Shade) (course : Course) (outer inner : Loose) → IsGoodCourse course
    → IsLooseChannelOn wide part course outer → IsLooseChannelOn own part course inner → LooseIn outer inner
channel-in part (still x) outer inner good first second =
    rw (first, second) (record {
      within = record { least = omega (arith, ints); greatest = omega (arith, ints) };
      order = omega (arith, ints);
    })
channel-in part (moving interval) outer inner good first second = record {
  within = loose_channels_nest.own_in_wide interval.easing good interval.distance (part interval.from) (part interval.to) outer inner first second;
  order = loose_channels_nest.in_order own interval.easing good interval.distance (part interval.from) (part interval.to) inner second;
}

-- how surely it is shown
shown-looser : (colour : Option Rgba) (course : Course) (outer inner : Sureness) → IsGoodCourse course
    → IsSurelyShownWith wide colour course outer → IsSurelyShownWith own colour course inner → IsLooser outer inner
shown-looser None course outer inner good first second = rw (first, second) tt
shown-looser (Some colour) (still x) outer inner good first second =
    loose_shown_nests.own_in_wide Linear tt zero_of_one (visible_of x) (visible_of x) outer inner first second
shown-looser (Some colour) (moving interval) outer inner good first second =
    loose_shown_nests.own_in_wide interval.easing good interval.distance (visible_of interval.from) (visible_of interval.to) outer inner first second

-- a loose state of a layer
pub state-in : KindsOfStatesNest
state-in scene setup frame number layer outer inner valid is first second =
    let good = λ (prop : Prop). good_course_of scene setup frame number layer prop valid is in
    let background = course_of scene setup frame layer Background in
    let opacity = course_of scene setup frame layer Opacity in
    record {
      red = channel-in red_of background outer.red inner.red (good Background) first.is_red second.is_red;
      green = channel-in green_of background outer.green inner.green (good Background) first.is_green second.is_green;
      blue = channel-in blue_of background outer.blue inner.blue (good Background) first.is_blue second.is_blue;
      cover = loose-in cover cover_of background outer.cover inner.cover (good Background) first.is_cover second.is_cover;
      solid = loose-most wide cover cover_of background outer.cover first.is_cover;
      alpha = loose-in alpha alpha_of opacity outer.alpha inner.alpha (good Opacity) first.is_alpha second.is_alpha;
      opaque = loose-most wide alpha alpha_of opacity outer.alpha first.is_alpha;
      shown = shown-looser layer.colour (course_of scene setup frame layer Visibility) outer.shown inner.shown (good Visibility) first.is_shown second.is_shown;
      left = loose-in position length_of (course_of scene setup frame layer Left) outer.left inner.left (good Left) first.is_left second.is_left;
      top = loose-in position length_of (course_of scene setup frame layer Top) outer.top inner.top (good Top) first.is_top second.is_top;
      width = loose-in extent length_of (course_of scene setup frame layer Width) outer.width inner.width (good Width) first.is_width second.is_width;
      height = loose-in extent length_of (course_of scene setup frame layer Height) outer.height inner.height (good Height) first.is_height second.is_height;
    }

pub tints-nest : (scene : Scene) (setup : Setup) (start : ℕ) → IsValid scene → (outer inner : LooseRun)
    → IsLooseRunIn wide scene setup start outer → IsLooseRunIn own scene setup start inner
    → PixelsLieIn setup start (tints_of scene outer) (tints_of scene inner)
tints-nest scene setup start valid outer inner first second column row within below frame low high =
    tints_hold_tints scene valid (outer frame) (inner frame)
    (λ number is_layer. let found = layer-at scene.layers number is_layer in
    state-in scene setup frame number found.0 (outer frame number) (inner frame number) valid found.1
    (first frame number found.0 low high found.1) (second frame number found.0 low high found.1)) column row

pub kinds_of_bad_windows_nest : KindsOfBadWindowsNest
kinds_of_bad_windows_nest = record {
  tints = tints-nest;
  surely = λ scene setup start x y valid outer inner first second bad.
      bad_windows_nest.surely_own (tints_of scene outer) (tints_of scene inner) setup start x y
      (tints-nest scene setup start valid outer inner first second) bad;
  possibly = λ scene setup start x y valid outer inner first second bad.
      bad_windows_nest.possibly_wide (tints_of scene outer) (tints_of scene inner) setup start x y
      (tints-nest scene setup start valid outer inner first second) bad;
}
