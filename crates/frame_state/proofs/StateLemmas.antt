-- The state of a layer by the ways of its properties: it is the own kind's, in the ranges of its slots, and the exact one where no
-- easing is a curve.
use Rattle.std.proofs.Common.{◌≡◌, ◌⊎◌, ℕ, ◌<◌, ◌-◌, ℤ, pos, ◌≤ℤ◌, Bool, true, false, List, Option, Some, None, filter_map, get_or, length, min, slice_get, if◌then◌else◌, arith, refl, sym, ap, ◌∙◌, subst, inl, inr}
use Rattle.std.proofs.lemmas.Int.{ints, clamps}
use Rattle.std.proofs.lemmas.Option.{get_or_from_slice_get, slice_get-get_or}
use Rattle.page_model.specs.declared.animation.Anim.{Anim}
use Rattle.page_model.specs.declared.colour.Rgba.{Rgba}
use Rattle.page_model.specs.declared.easing.Easing.{Easing}
use Rattle.page_model.specs.declared.easing.Easing.TheVariants.{Linear, Steps, Cubic}
use Rattle.page_model.specs.declared.property.Prop.{Prop}
use Rattle.page_model.specs.declared.property.Prop.TheVariants.{Background, Opacity, Visibility, Left, Top, Width, Height}
use Rattle.page_model.specs.declared.property.Value.{Value}
use Rattle.page_model.specs.declared.scene.Layer.{Layer}
use Rattle.page_model.specs.declared.scene.Scene.{Scene}
use Rattle.page_model.specs.declared.setup.Setup.{Setup}
use Rattle.page_model.specs.Enclosure.{IsLooseChannelOn, IsLooseOn, IsLooseStateAt, IsSurelyShownOn, IsSurelyShownWith, Loose, Sureness, maybe, one_value, own, surely, surely_not}
use Rattle.page_model.specs.Fraction.{Fraction, zero_of_one}
use Rattle.page_model.specs.Keyframes.{Interval, last_of}
use Rattle.page_model.specs.LayerAt.{Course, still, moving, State, alpha_of, blue_of, course_by, course_of, cover_of, declared, green_of, interval_at, is_held, length_of, red_of, visible_of}
use Rattle.page_model.specs.Progress.{progress_of}
use Rattle.page_model.specs.Slot.{Shade, Slot, alpha, cover, extent, position}
use Rattle.page_model.specs.ValidScene.{IsEasing, IsValid}
use Rattle.fraction_laws.specs.FractionLaws.{IsPart}
use Rattle.fraction_laws.proofs.FractionLemmas.{progress-part}
use Rattle.curve_laws.specs.SlotLaws.{Agrees, IsWithin}
use Rattle.tint_laws.specs.TintLaws.{StateWithin}
use Rattle.easing_bounds.specs.Value.{eased_value, is_cubic as is_curve}
use Rattle.keyframe_sets.specs.Here.{interval_here}
use Rattle.slot_values.specs.Channels.{channel_left, eight_bits, is_gone_at, level_at}
use Rattle.slot_values.specs.Ends.{AreEnds, End, nothing_made}
use Rattle.slot_values.specs.Slots.{IsInSlot, loose_of, value_at}
use Rattle.frame_state.specs.Scenes.{is_cubic}
use Rattle.frame_state.specs.States.{IsInSlots, known, state_by, sure_of, sure_with}
use Rattle.layer_ways.specs.Ways.{Way, channel_by, eased_way, greatest_of, hides_at, least_of, level_by, shown_by, unless_hidden, value_by, way_of}
use Rattle.slot_values.proofs.ChannelLemmas.{channel-small, loose_channel-is}
use Rattle.layer_ways.proofs.CourseLemmas.{cases_Option, interval_at-none, interval_at-some}
use Rattle.frame_state.proofs.EndLemmas.{ends-are}
use Rattle.frame_state.proofs.PickLemmas.{course_way}
use Rattle.layer_ways.proofs.PlainLemmas.{All-filter_map, All-slice_get, interval-limits, interval-part}
use Rattle.slot_values.proofs.RoundingLemmas.{in_slot, loose-is}
use Rattle.frame_state.proofs.ShownLemmas.{shown-is}
use Rattle.frame_state.proofs.StraightLemmas.{interval-straight}

-- the layer that is read at a place
pub read-is : (layers xs : List Layer) (number : ℕ) (layer element : Layer) → element ≡ get_or xs number element → xs ≡ layers
    → slice_get layers number ≡ Some layer → element ≡ layer
read-is layers xs number layer element read same is =
    read ∙ ap (λ (ys : List Layer). get_or ys number element) same ∙ get_or_from_slice_get layers number layer element is

-- the ranges
level-small : (from to : Shade) (least greatest : End) (moves : Bool) → IsInSlot eight_bits (level_by from to least greatest moves)
level-small from to least greatest false = own-small from.level
  where
    own-small : (n : ℕ) → IsInSlot eight_bits (one_value (pos (min n 255)))
    own-small n = record { at_least = omega (arith, ints); in_order = omega (arith, ints); at_most = omega (arith, ints) }
level-small from to least greatest true = channel-small from to least greatest

pub state_by-in_slots : (layer : Layer) (way : Prop → Way) → IsInSlots (state_by layer way)
state_by-in_slots layer way = record {
  red = channel-in red_of (way Background);
  green = channel-in green_of (way Background);
  blue = channel-in blue_of (way Background);
  cover = as_bits cover (value_by cover cover_of (way Background)) refl refl (value-small cover cover_of (way Background) (omega (arith, ints)));
  alpha = as_bits alpha (value_by alpha alpha_of (way Opacity)) refl refl (value-small alpha alpha_of (way Opacity) (omega (arith, ints)));
  left = value-small position length_of (way Left) (omega (arith, ints));
  top = value-small position length_of (way Top) (omega (arith, ints));
  width = value-small extent length_of (way Width) (omega (arith, ints));
  height = value-small extent length_of (way Height) (omega (arith, ints));
} where
  channel-in : (part : Value → Shade) (w : Way) → IsInSlot eight_bits (channel_by part w)
  channel-in part w = level-small (part w.from) (part w.to) w.least w.greatest w.moves

  value-small : (slot : Slot) (part : Value → ℤ) (w : Way) → slot.least ≤ℤ slot.greatest → IsInSlot slot (value_by slot part w)
  value-small slot part w some = in_slot slot (part w.from) (part w.to) w.least w.greatest some

  as_bits : (slot : Slot) (loose : Loose) → slot.least ≡ pos 0 → slot.greatest ≡ pos 255 → IsInSlot slot loose → IsInSlot eight_bits loose
  as_bits slot loose low high is = record {
    at_least = rw (← low) is.at_least;
    in_order = is.in_order;
    at_most = rw (← high) is.at_most;
  }

-- what is so of each interval of a course
abbrev Each : (Interval → Type 0) → Course → Type 0
Each P (still x) = Unit {0}
Each P (moving interval) = P interval

each-by : (P : Interval → Type 0) (held : Bool) (base : Value) (found : Option Interval) → ((interval : Interval) → found ≡ Some interval → P interval)
    → Each P (if held then still base else course_by base found)
each-by P true base found each = tt
each-by P false base None each = tt
each-by P false base (Some interval) each = each interval refl

-- a fact is so of each interval that an animation of a layer has
abbrev IsSoHere : (Interval → Type 0) → Scene → ℕ → Type 0
IsSoHere P scene number =
    (place : ℕ) (prop : Prop) (at : Fraction) (interval : Interval) → IsPart at → interval_here scene number place prop at ≡ Some interval → P interval

each-at : (P : Interval → Type 0) (scene : Scene) (setup : Setup) (frame number place : ℕ) (layer : Layer) (anim : Anim) (prop : Prop) (interval : Interval)
    → IsSoHere P scene number → slice_get scene.layers number ≡ Some layer → slice_get layer.anims place ≡ Some anim
    → interval_at scene.sets setup frame prop (declared layer prop) anim ≡ Some interval → P interval
each-at P scene setup frame number place layer anim prop interval so layer_is anim_is e =
    elim (cases_Option (progress_of setup anim frame)) [
      | inl none ↦ absurd (cc (interval_at-none scene.sets setup frame prop (declared layer prop) anim none))
      | inr some ↦
          so place prop some.0 interval (progress-part setup anim frame some.0 some.1)
          (sym (interval_at-some scene setup frame number place layer anim prop some.0 layer_is anim_is some.1) ∙ e)
    ]

course-each : (P : Interval → Type 0) (scene : Scene) (setup : Setup) (frame number : ℕ) (layer : Layer) (prop : Prop) → IsSoHere P scene number
    → slice_get scene.layers number ≡ Some layer → Each P (course_of scene setup frame layer prop)
course-each P scene setup frame number layer prop so layer_is =
    let base : Value = declared layer prop in
    let found : List Interval = filter_map (interval_at scene.sets setup frame prop base) layer.anims in
    let all = All-filter_map (interval_at scene.sets setup frame prop base) P layer.anims
    (λ place d within interval e.
    each-at P scene setup frame number place layer (get_or layer.anims place d) prop interval so layer_is (slice_get-get_or layer.anims place d within) e) in
    each-by P (is_held layer.important prop) base (last_of found)
    (λ interval e. All-slice_get P found (length found - 1) interval all e)

-- the ends of a course
record IsEased (interval : Interval) : Type 0 where
  limits : IsEasing interval.easing
  part : IsPart interval.distance

eased-here : (scene : Scene) (number : ℕ) → IsValid scene → IsSoHere IsEased scene number
eased-here scene number valid place prop at interval part e = record {
  limits = interval-limits scene number place prop at interval valid e;
  part = interval-part scene number place prop at interval part e;
}

interval-ends : (i : Interval) → IsEased i → AreEnds i.easing i.distance (eased_way i).least (eased_way i).greatest
interval-ends i eased = ends-are i.easing i.distance eased.limits eased.part

still-ends : AreEnds Linear zero_of_one nothing_made nothing_made
still-ends = ends-are Linear zero_of_one tt (record { positive = omega arith; at_most_one = omega arith })

loose_on-is : (slot : Slot) (part : Value → ℤ) (course : Course) → 0 < slot.unit → slot.least ≤ℤ slot.greatest → Each IsEased course
    → IsLooseOn own slot part course (value_by slot part (way_of course))
loose_on-is slot part (still x) unit some eased =
    loose-is slot Linear zero_of_one (part x) (part x) nothing_made nothing_made still-ends unit some
loose_on-is slot part (moving i) unit some eased =
    loose-is slot i.easing i.distance (part i.from) (part i.to) (eased_way i).least (eased_way i).greatest (interval-ends i eased) unit some

loose_channel_on-is : (part : Value → Shade) (course : Course) → Each IsEased course → IsLooseChannelOn own part course (channel_by part (way_of course))
loose_channel_on-is part (still x) eased = refl
loose_channel_on-is part (moving i) eased =
    loose_channel-is i.easing i.distance (part i.from) (part i.to) (eased_way i).least (eased_way i).greatest (interval-ends i eased)

surely_on-is : (course : Course) → Each IsEased course → IsSurelyShownOn own course (shown_by (way_of course))
surely_on-is (still x) eased = shown-is Linear zero_of_one (visible_of x) (visible_of x) nothing_made nothing_made still-ends
surely_on-is (moving i) eased =
    shown-is i.easing i.distance (visible_of i.from) (visible_of i.to) (eased_way i).least (eased_way i).greatest (interval-ends i eased)

surely_with-is : (colour : Option Rgba) (course : Course) → Each IsEased course → IsSurelyShownWith own colour course (sure_with colour (way_of course))
surely_with-is None course eased = refl
surely_with-is (Some c) course eased = surely_on-is course eased

pub state_by-own : (scene : Scene) (setup : Setup) (frame number : ℕ) (layer : Layer) → IsValid scene → slice_get scene.layers number ≡ Some layer
    → IsLooseStateAt own scene setup frame layer (state_by layer (course_way scene setup frame layer))
state_by-own scene setup frame number layer valid layer_is =
    let eased : (prop : Prop) → Each IsEased (course_of scene setup frame layer prop) =
    λ prop. course-each IsEased scene setup frame number layer prop (eased-here scene number valid) layer_is in
    let fill : Course = course_of scene setup frame layer Background in record {
      is_red = loose_channel_on-is red_of fill (eased Background);
      is_green = loose_channel_on-is green_of fill (eased Background);
      is_blue = loose_channel_on-is blue_of fill (eased Background);
      is_cover = loose_on-is cover cover_of fill (omega arith) (omega (arith, ints)) (eased Background);
      is_alpha = loose_on-is alpha alpha_of (course_of scene setup frame layer Opacity) (omega arith) (omega (arith, ints)) (eased Opacity);
      is_shown = surely_with-is layer.colour (course_of scene setup frame layer Visibility) (eased Visibility);
      is_left = loose_on-is position length_of (course_of scene setup frame layer Left) (omega arith) (omega (arith, ints)) (eased Left);
      is_top = loose_on-is position length_of (course_of scene setup frame layer Top) (omega arith) (omega (arith, ints)) (eased Top);
      is_width = loose_on-is extent length_of (course_of scene setup frame layer Width) (omega arith) (omega (arith, ints)) (eased Width);
      is_height = loose_on-is extent length_of (course_of scene setup frame layer Height) (omega arith) (omega (arith, ints)) (eased Height);
    }

-- where no easing is a curve both ends are one
same-ends : (easing : Easing) (at : Fraction) → is_curve easing ≡ false → least_of (eased_value easing at) ≡ greatest_of (eased_value easing at)
same-ends Linear at straight = refl
same-ends (Steps count jump) at straight = refl
same-ends (Cubic x1 y1 x2 y2) at straight = absurd (cc)

abbrev IsStraight : Interval → Type 0
IsStraight interval = is_curve interval.easing ≡ false

same-way : (course : Course) → Each IsStraight course → (way_of course).least ≡ (way_of course).greatest
same-way (still x) straight = refl
same-way (moving i) straight = same-ends i.easing i.distance straight

-- so each value is single, and it is sure whether the layer is shown
abbrev IsOne : Loose → Type 0
IsOne loose = loose.lo ≡ loose.hi

abbrev IsSure : Sureness → Type 0
IsSure shown = (shown ≡ surely) ⊎ (shown ≡ surely_not)

one-itself : (v w : ℤ) → v ≡ w → IsOne (loose_of v w)
one-itself v w same = omega (arith, ints, clamps, same)

value-one : (slot : Slot) (part : Value → ℤ) (way : Way) → way.least ≡ way.greatest → IsOne (value_by slot part way)
value-one slot part way same =
    one-itself (value_at slot (part way.from) (part way.to) way.least) (value_at slot (part way.from) (part way.to) way.greatest)
    (ap (value_at slot (part way.from) (part way.to)) same)

left-one : (h : Bool) (v : ℤ) → IsOne (channel_left h h v v)
left-one true v = refl
left-one false v = one-itself v v refl

level-one : (from to : Shade) (x : End) (moves : Bool) → IsOne (level_by from to x x moves)
level-one from to x true = left-one (is_gone_at from to x) (level_at from to x)
level-one from to x false = refl

channel-one : (part : Value → Shade) (way : Way) → way.least ≡ way.greatest → IsOne (channel_by part way)
channel-one part way same =
    subst (λ (x : End). IsOne (level_by (part way.from) (part way.to) way.least x way.moves)) same
    (level-one (part way.from) (part way.to) way.least way.moves)

hidden-sure : (h : Bool) → IsSure (unless_hidden h h)
hidden-sure true = inr refl
hidden-sure false = inl refl

shown-sure : (colour : Option Rgba) (way : Way) → way.least ≡ way.greatest → IsSure (sure_with colour way)
shown-sure None way same = inr refl
shown-sure (Some c) way same =
    subst (λ (x : End). IsSure (unless_hidden (hides_at (visible_of way.from) (visible_of way.to) way.least) (hides_at (visible_of way.from) (visible_of way.to) x)))
    same (hidden-sure (hides_at (visible_of way.from) (visible_of way.to) way.least))

-- a single value that an exact one lies in is that value
one-is : (loose : Loose) (v : ℤ) → IsOne loose → IsWithin loose v → loose ≡ one_value v
one-is loose v one within =
    let low : loose.lo ≡ v = least one within.at_least within.at_most in
    let high : loose.hi ≡ v = sym one ∙ low in
    λ i. record { lo = low i; hi = high i }
  where
    least : {lo hi : ℤ} → lo ≡ hi → lo ≤ℤ v → v ≤ℤ hi → lo ≡ v
    least e h k = omega (arith, ints, e, h, k)

sure-is : (sure : Sureness) (shown : Bool) → IsSure sure → Agrees sure shown → sure ≡ sure_of shown
sure-is surely true is agrees = refl
sure-is surely false is agrees = absurd agrees
sure-is surely_not true is agrees = absurd agrees
sure-is surely_not false is agrees = refl
sure-is maybe shown (inl e) agrees = absurd (cc)
sure-is maybe shown (inr e) agrees = absurd (cc)

pub state_by-exact : (scene : Scene) (setup : Setup) (frame number : ℕ) (layer : Layer) (state : State) → is_cubic scene ≡ false
    → slice_get scene.layers number ≡ Some layer → StateWithin (state_by layer (course_way scene setup frame layer)) state
    → state_by layer (course_way scene setup frame layer) ≡ known state
state_by-exact scene setup frame number layer state none layer_is within =
    let way : Prop → Way = course_way scene setup frame layer in
    let same : (prop : Prop) → (way prop).least ≡ (way prop).greatest =
    λ prop. same-way (course_of scene setup frame layer prop)
    (course-each IsStraight scene setup frame number layer prop
    (λ place p at interval part e. interval-straight scene number place p at interval none e) layer_is) in
    let red = one-is _ (pos state.red) (channel-one red_of (way Background) (same Background)) within.red in
    let green = one-is _ (pos state.green) (channel-one green_of (way Background) (same Background)) within.green in
    let blue = one-is _ (pos state.blue) (channel-one blue_of (way Background) (same Background)) within.blue in
    let covered = one-is _ (pos state.cover) (value-one cover cover_of (way Background) (same Background)) within.cover in
    let opaque = one-is _ (pos state.alpha) (value-one alpha alpha_of (way Opacity) (same Opacity)) within.alpha in
    let shown = sure-is _ state.shown (shown-sure layer.colour (way Visibility) (same Visibility)) within.shown in
    let left = one-is _ state.left (value-one position length_of (way Left) (same Left)) within.left in
    let top = one-is _ state.top (value-one position length_of (way Top) (same Top)) within.top in
    let width = one-is _ state.width (value-one extent length_of (way Width) (same Width)) within.width in
    let height = one-is _ state.height (value-one extent length_of (way Height) (same Height)) within.height in
    λ i. record {
      red = red i;
      green = green i;
      blue = blue i;
      cover = covered i;
      alpha = opaque i;
      shown = shown i;
      left = left i;
      top = top i;
      width = width i;
      height = height i;
    }
