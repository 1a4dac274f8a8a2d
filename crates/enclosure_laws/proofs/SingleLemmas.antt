-- Without curves each kind knows each slot exactly, so the states of the layers are known and the tint of a pixel is a single colour.
use Rattle.std.proofs.Common.{◌≡◌, ℕ, ◌<◌, ℤ, pos, negsuc, ◌+ℤ◌, ◌*ℤ◌, Bool, true, false, List, [], ◌∷◌, All, Option, Some, None, get_or, length, slice_get, int_le, int_lt, max, min, fold, is_some, arith, refl, inl, inr}
use Rattle.std.proofs.lemmas.Bool.{cases_Bool}
use Rattle.std.proofs.lemmas.Int.{ints}
use Rattle.std.proofs.lemmas.List.Elements.{All-contains_itself, All-head, All-tail}
use borrow.Author.Differences.{lt-false, lt-true}
use Rattle.page_model.specs.declared.colour.Rgba.{Rgba}
use Rattle.page_model.specs.declared.colour.Tint.{Tint}
use Rattle.page_model.specs.declared.easing.Easing.{Easing}
use Rattle.page_model.specs.declared.easing.Easing.TheVariants.{Cubic, Linear, Steps}
use Rattle.page_model.specs.declared.property.Prop.{Prop}
use Rattle.page_model.specs.declared.property.Prop.TheVariants.{Background, Height, Left, Opacity, Top, Visibility, Width}
use Rattle.page_model.specs.declared.property.Value.{Value}
use Rattle.page_model.specs.declared.scene.Layer.{Layer}
use Rattle.page_model.specs.declared.scene.Scene.{Scene}
use Rattle.page_model.specs.declared.setup.Setup.{Setup}
use Rattle.page_model.specs.Change.{IsSingle}
use Rattle.page_model.specs.Colour.{blended, body_colour}
use Rattle.page_model.specs.Curve.{stepped}
use Rattle.page_model.specs.Enclosure.{AllGone, AllReach, IsHiddenSurely, IsLoose, IsLooseChannel, IsLooseChannelOn, IsLooseOn, IsLooseStateAt, IsShownSurely, IsSurelyShownWith, Kind, Loose, LooseState, SomeReach, Sureness, maybe, one_value, surely, surely_not}
use Rattle.page_model.specs.Fraction.{Fraction, zero_of_one}
use Rattle.page_model.specs.LayerAt.{Course, alpha_of, blue_of, course_of, cover_of, green_of, length_of, moving, red_of, still, visible_of}
use Rattle.page_model.specs.Red.{white}
use Rattle.page_model.specs.Slot.{IsGreatestLevel, RoundsTo, RoundsToLevel, Shade, Slot, alpha, cover, extent, fading, position}
use Rattle.page_model.specs.TintOf.{Span, blended_span, both, combined_span, covers_surely, full_alpha, painted_where, single, span_of, spans_surely, tint_box, tint_ground, tint_of, tint_over}
use Rattle.page_model.specs.ValidScene.{IsValid}
use Rattle.safety_laws.specs.ComputedLaws.{HasNoCurve, IsNoCurve}
use Rattle.safety_laws.proofs.CourseLemmas.{IsPlainOn, scene-plain}
use Rattle.state_laws.proofs.UniqueLemmas.{RoundsTo-antitone, greatest-unique, level-unique}
use Rattle.tint_laws.proofs.WindowLemmas.{layer-at}
use Rattle.wide_laws.specs.DecidedLaws.{IsDecided}
use Rattle.wide_laws.proofs.DecidedLemmas.{decided-le_z}

-- one number as a loose value, or as a span
abbrev IsOne : Loose → Type 0
IsOne loose = loose.lo ≡ loose.hi

abbrev IsPoint : Span → Type 0
IsPoint span = span.lo ≡ span.hi

abbrev IsKnown : Sureness → Type 0
IsKnown surely = Unit {0}
IsKnown surely_not = Unit {0}
IsKnown maybe = ⊥

-- a slot, where all values of a kind reach what some do
loose-one : (kind : Kind) (slot : Slot) (easing : Easing) (at : Fraction) (from to : ℤ) (loose : Loose) → IsNoCurve easing
    → IsLoose kind slot easing at from to loose → IsOne loose
loose-one kind slot Linear at from to loose straight is =
    greatest-unique slot (RoundsTo slot Linear at from to) loose.lo loose.hi (RoundsTo-antitone slot Linear at from to) is.least is.greatest
loose-one kind slot (Steps count jump) at from to loose straight is =
    greatest-unique slot (RoundsTo slot (Steps count jump) at from to) loose.lo loose.hi (RoundsTo-antitone slot (Steps count jump) at from to)
    is.least is.greatest
loose-one kind slot (Cubic x1 y1 x2 y2) at from to loose straight is = absurd straight

-- a channel, where the alpha is gone or left
channel-either : (Gone : Type 0) (Holds : ℤ → Type 0) (loose : Loose) → IsDecided Gone → (Gone → loose ≡ one_value (pos 0))
    → ((Gone → ⊥) → IsGreatestLevel Holds loose.lo × IsGreatestLevel Holds loose.hi) → IsOne loose
channel-either Gone Holds loose (inl gone) first second = rw (first gone) refl
channel-either Gone Holds loose (inr left) first second =
    let levels = second left in level-unique Holds loose.lo loose.hi levels.0 levels.1

channel-one : (kind : Kind) (easing : Easing) (at : Fraction) (from to : Shade) (loose : Loose) → IsNoCurve easing
    → IsLooseChannel kind easing at from to loose → IsOne loose
channel-one kind Linear at from to loose straight is =
    channel-either (AllGone kind Linear at from to) (RoundsToLevel Linear at from to) loose
    (decided-le_z (pos from.alpha *ℤ pos at.den) (fading from to *ℤ pos at.num)) is.gone
    (λ left. let levels = is.left left in (levels.least, levels.greatest))
channel-one kind (Steps count jump) at from to loose straight is =
    channel-either (AllGone kind (Steps count jump) at from to) (RoundsToLevel (Steps count jump) at from to) loose
    (decided-le_z (pos from.alpha *ℤ pos (stepped count jump at).den) (fading from to *ℤ pos (stepped count jump at).num)) is.gone
    (λ left. let levels = is.left left in (levels.least, levels.greatest))
channel-one kind (Cubic x1 y1 x2 y2) at from to loose straight is = absurd straight

-- whether it is shown
hidden-known : (Hides : Type 0) (shown : Sureness) → IsHiddenSurely Hides Hides shown → IsKnown shown
hidden-known Hides surely is = tt
hidden-known Hides surely_not is = tt
hidden-known Hides maybe is = is.1 is.0

hidden-by : (kind : Kind) (easing : Easing) (at : Fraction) (a b : ℤ) (shown : Sureness) → IsNoCurve easing
    → IsHiddenSurely (AllReach kind easing at a b) (SomeReach kind easing at a b) shown → IsKnown shown
hidden-by kind Linear at a b shown straight is = hidden-known (AllReach kind Linear at a b) shown is
hidden-by kind (Steps count jump) at a b shown straight is = hidden-known (AllReach kind (Steps count jump) at a b) shown is
hidden-by kind (Cubic x1 y1 x2 y2) at a b shown straight is = absurd straight

shown-known : (kind : Kind) (easing : Easing) (at : Fraction) (from to : Bool) (shown : Sureness) → IsNoCurve easing
    → IsShownSurely kind easing at from to shown → IsKnown shown
shown-known kind easing at true true shown straight is = rw is tt
shown-known kind easing at true false shown straight is = hidden-by kind easing at (pos 1) (pos 1) shown straight is
shown-known kind easing at false true shown straight is = hidden-by kind easing at (negsuc 0) (pos 0) shown straight is
shown-known kind easing at false false shown straight is = rw is tt

-- the same on a course
value_on-one : (kind : Kind) (slot : Slot) (part : Value → ℤ) (course : Course) (loose : Loose) → IsPlainOn course
    → IsLooseOn kind slot part course loose → IsOne loose
value_on-one kind slot part (still x) loose plain is = loose-one kind slot Linear zero_of_one (part x) (part x) loose tt is
value_on-one kind slot part (moving interval) loose plain is =
    loose-one kind slot interval.easing interval.distance (part interval.from) (part interval.to) loose plain.easing.straight is

channel_on-one : (kind : Kind) (part : Value → Shade) (course : Course) (loose : Loose) → IsPlainOn course
    → IsLooseChannelOn kind part course loose → IsOne loose
channel_on-one kind part (still x) loose plain is = rw is refl
channel_on-one kind part (moving interval) loose plain is =
    channel-one kind interval.easing interval.distance (part interval.from) (part interval.to) loose plain.easing.straight is

shown_with-known : (kind : Kind) (colour : Option Rgba) (course : Course) (shown : Sureness) → IsPlainOn course
    → IsSurelyShownWith kind colour course shown → IsKnown shown
shown_with-known kind None course shown plain is = rw is tt
shown_with-known kind (Some colour) (still x) shown plain is =
    shown-known kind Linear zero_of_one (visible_of x) (visible_of x) shown tt is
shown_with-known kind (Some colour) (moving interval) shown plain is =
    shown-known kind interval.easing interval.distance (visible_of interval.from) (visible_of interval.to) shown plain.easing.straight is

-- a state of a layer, of which the box and the colour are known
record IsKnownState (state : LooseState) : Type 0 where
  red : IsOne state.red
  green : IsOne state.green
  blue : IsOne state.blue
  cover : IsOne state.cover
  alpha : IsOne state.alpha
  shown : IsKnown state.shown
  left : IsOne state.left
  top : IsOne state.top
  width : IsOne state.width
  height : IsOne state.height

state-known : (kind : Kind) (scene : Scene) (setup : Setup) (frame number : ℕ) (layer : Layer) (state : LooseState) → IsValid scene
    → HasNoCurve scene → slice_get scene.layers number ≡ Some layer → IsLooseStateAt kind scene setup frame layer state → IsKnownState state
state-known kind scene setup frame number layer state valid straight there is =
    let plain = λ (prop : Prop). scene-plain scene setup frame number layer prop valid straight there in
    let course = λ (prop : Prop). course_of scene setup frame layer prop in
    record {
      red = channel_on-one kind red_of (course Background) state.red (plain Background) is.is_red;
      green = channel_on-one kind green_of (course Background) state.green (plain Background) is.is_green;
      blue = channel_on-one kind blue_of (course Background) state.blue (plain Background) is.is_blue;
      cover = value_on-one kind cover cover_of (course Background) state.cover (plain Background) is.is_cover;
      alpha = value_on-one kind alpha alpha_of (course Opacity) state.alpha (plain Opacity) is.is_alpha;
      shown = shown_with-known kind layer.colour (course Visibility) state.shown (plain Visibility) is.is_shown;
      left = value_on-one kind position length_of (course Left) state.left (plain Left) is.is_left;
      top = value_on-one kind position length_of (course Top) state.top (plain Top) is.is_top;
      width = value_on-one kind extent length_of (course Width) state.width (plain Width) is.is_width;
      height = value_on-one kind extent length_of (course Height) state.height (plain Height) is.is_height;
    }

-- a known box surely covers a pixel or surely doesn't
spans-at : (from size : ℤ) (at : ℕ) → IsKnown (spans_surely (one_value from) (one_value size) at)
spans-at from size at =
    elim (cases_Bool (int_lt (pos at) from)) [
      | inl before ↦ rw before tt
      | inr reached ↦ elim (cases_Bool (int_lt (pos at) (from +ℤ size))) [
        | inl within ↦ rw (reached, below (from +ℤ size) at within, above from at reached, within) tt
        | inr past ↦ rw (reached, above (from +ℤ size) at past) tt
      ]
    ] where
      above : (edge : ℤ) (at : ℕ) → int_lt (pos at) edge ≡ false → int_le edge (pos at) ≡ true
      above edge at e = let h = lt-false (pos at) edge e in grind (arith, ints, h)

      below : (edge : ℤ) (at : ℕ) → int_lt (pos at) edge ≡ true → int_le edge (pos at) ≡ false
      below edge at e = let h = lt-true (pos at) edge e in grind (arith, ints, h)

spans-known : (from size : Loose) (at : ℕ) → IsOne from → IsOne size → IsKnown (spans_surely from size at)
spans-known from size at one other = rw (one, other) (spans-at from.hi size.hi at)

both-known : (first second : Sureness) → IsKnown first → IsKnown second → IsKnown (both first second)
both-known surely second one other = other
both-known surely_not second one other = tt
both-known maybe second one other = absurd one

-- blending of points is a point
ends-meet : (n : ℕ) → min (min (min n n) (min n n)) (min (min n n) (min n n)) ≡ max (max (max n n) (max n n)) (max (max n n) (max n n))
ends-meet n = omega arith

blended-point : (source alpha backdrop : Span) → IsPoint source → IsPoint alpha → IsPoint backdrop → IsPoint (blended_span source alpha backdrop)
blended-point source alpha backdrop first second third =
    rw (first, second, third) (ends-meet (blended source.hi alpha.hi backdrop.hi))

-- a known state over one colour gives one colour
over-single : (state : LooseState) (alpha : Span) (backdrop : Tint) → IsKnownState state → IsPoint alpha → IsSingle backdrop
    → IsSingle (tint_over state alpha backdrop)
over-single state alpha backdrop known point one =
    let together : IsPoint (combined_span (span_of state.cover) alpha) = rw (known.cover, point) refl in
    let red = blended-point (span_of state.red) (combined_span (span_of state.cover) alpha) (record { lo = backdrop.lo.r; hi = backdrop.hi.r }) (rw known.red refl) together (λ i. (one i).r) in
    let green = blended-point (span_of state.green) (combined_span (span_of state.cover) alpha) (record { lo = backdrop.lo.g; hi = backdrop.hi.g }) (rw known.green refl) together (λ i. (one i).g) in
    let blue = blended-point (span_of state.blue) (combined_span (span_of state.cover) alpha) (record { lo = backdrop.lo.b; hi = backdrop.hi.b }) (rw known.blue refl) together (λ i. (one i).b) in
    λ i. record { r = red i; g = green i; b = blue i }

painted-single : (sureness : Sureness) (above backdrop : Tint) → IsKnown sureness → IsSingle above → IsSingle backdrop
    → IsSingle (painted_where sureness above backdrop)
painted-single surely above backdrop known one other = one
painted-single surely_not above backdrop known one other = other
painted-single maybe above backdrop known one other = absurd known

box-single : (states : ℕ → LooseState) (column row : ℕ) (backdrop : Tint) (box : ℕ) → IsKnownState (states box) → IsSingle backdrop
    → IsSingle (tint_box states column row backdrop box)
box-single states column row backdrop box known one =
    painted-single (both (states box).shown (covers_surely (states box) column row))
    (tint_over (states box) (span_of (states box).alpha) backdrop) backdrop
    (both-known (states box).shown (covers_surely (states box) column row) known.shown
    (both-known (spans_surely (states box).left (states box).width column) (spans_surely (states box).top (states box).height row)
    (spans-known (states box).left (states box).width column known.left known.width)
    (spans-known (states box).top (states box).height row known.top known.height)))
    (over-single (states box) (span_of (states box).alpha) backdrop known (rw known.alpha refl) one) one

boxes-single : (states : ℕ → LooseState) (column row : ℕ) (order : List ℕ) (tint : Tint) → All (λ number. IsKnownState (states number)) order
    → IsSingle tint → IsSingle (fold (tint_box states column row) tint order)
boxes-single states column row [] tint known one = one
boxes-single states column row (number ∷ rest) tint known one =
    boxes-single states column row rest (tint_box states column row tint number)
    (All-tail (λ n. IsKnownState (states n)) number rest known)
    (box-single states column row tint number (All-head (λ n. IsKnownState (states n)) number rest known) one)

ground-single : (scene : Scene) (states : ℕ → LooseState) → IsKnownState (states 0) → IsSingle (tint_ground scene states)
ground-single scene states known =
    elim (cases_Bool (is_some (body_colour scene))) [
      | inl coloured ↦ rw coloured (over-single (states 0) full_alpha (single white) known refl refl)
      | inr bare ↦ rw bare refl
    ]

-- so is the tint of a pixel, by the states of a kind
tint-single : (scene : Scene) (states : ℕ → LooseState) (column row : ℕ) → IsValid scene
    → ((number : ℕ) → number < length scene.layers → IsKnownState (states number)) → IsSingle (tint_of scene states column row)
tint-single scene states column row valid known =
    boxes-single states column row scene.order (tint_ground scene states)
    (λ k d within. known (get_or scene.order k d) ((valid.order.boxes (get_or scene.order k d)).0 (All-contains_itself scene.order k d within)).1)
    (ground-single scene states (known 0 (omega (arith, valid.some_layer))))

pub states-single : (kind : Kind) (scene : Scene) (setup : Setup) (frame : ℕ) (states : ℕ → LooseState) (column row : ℕ) → IsValid scene
    → HasNoCurve scene
    → ((number : ℕ) (layer : Layer) → slice_get scene.layers number ≡ Some layer → IsLooseStateAt kind scene setup frame layer (states number))
    → IsSingle (tint_of scene states column row)
states-single kind scene setup frame states column row valid straight are =
    tint-single scene states column row valid (λ number below.
    let found = layer-at scene.layers number below in
    state-known kind scene setup frame number found.0 (states number) valid straight found.1 (are number found.0 found.1))
