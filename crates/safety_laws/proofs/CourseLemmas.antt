-- Which easing and which distance an interval of a valid scene has, and so a layer's course.
use Rattle.std.proofs.Common.{◌≡◌, ℕ, ◌-◌, ◌<◌, Bool, true, false, List, [], ◌∷◌, ◌++◌, All, IfSome, Option, Some, None, filter, filter_map, get_or, length, slice_get, if◌then◌else◌, option_and_then, unwrap_or, arith, refl, subst}
use Rattle.std.proofs.lemmas.List.Elements.{All-append, All-cons, All-filter}
use Rattle.std.proofs.lemmas.Option.{option_and_then_some}
use Rattle.page_model.specs.declared.animation.Anim.{Anim}
use Rattle.page_model.specs.declared.easing.Easing.{Easing}
use Rattle.page_model.specs.declared.easing.Easing.TheVariants.{Linear, Steps, Cubic}
use Rattle.page_model.specs.declared.keyframe.Keyframe.{Keyframe}
use Rattle.page_model.specs.declared.keyframe.KeyframeSet.{KeyframeSet}
use Rattle.page_model.specs.declared.property.Prop.{Prop}
use Rattle.page_model.specs.declared.property.Value.{Value}
use Rattle.page_model.specs.declared.scene.Layer.{Layer}
use Rattle.page_model.specs.declared.scene.Scene.{Scene}
use Rattle.page_model.specs.declared.setup.Setup.{Setup}
use Rattle.page_model.specs.Curve.{eased}
use Rattle.page_model.specs.Fraction.{Fraction}
use Rattle.page_model.specs.Keyframes.{Interval, Stop, added_at, has_stop_at, interval_of, is_reached, last_of, stop_of, stops_of, value_in, whole}
use Rattle.page_model.specs.LayerAt.{Course, still, moving, course_by, course_of, declared, interval_at, is_held}
use Rattle.page_model.specs.Progress.{progress_of}
use Rattle.page_model.specs.ValidScene.{IsEasing, IsLayer, IsSetInUse, IsValid}
use Rattle.safety_laws.specs.ComputedLaws.{HasNoCurve, IsNoCurve, IsStraight}
use Rattle.fraction_laws.specs.FractionLaws.{IsPart}
use Rattle.fraction_laws.proofs.FractionLemmas.{interval-found, distance-is_part, progress-part, stepped-part}
use Rattle.fraction_laws.proofs.ListLemmas.{mapped_some, All-filter_map, All-slice_get}

-- a stop has the easing of its keyframe, and an added one has none
stops-easing :
    (Good : Easing → Type 0) (prop : Prop) (frames : List Keyframe) → All (λ (frame : Keyframe). IfSome frame.easing Good) frames
    → All (λ (stop : Stop). IfSome stop.easing Good) (stops_of prop frames)
stops-easing Good prop frames all =
    All-filter_map (stop_of prop) (λ (stop : Stop). IfSome stop.easing Good) frames (λ k d within stop e.
    let frame : Keyframe = get_or frames k d in
    let found = mapped_some (λ (value : Value). record { offset = frame.offset; value = value; easing = frame.easing }) (value_in prop frame.values) stop e in
    subst (λ (s : Stop). IfSome s.easing Good) found.2 (all k d within))

added-easing : (Good : Easing → Type 0) (offset : ℕ) (own : Value) (stops : List Stop) → All (λ (stop : Stop). IfSome stop.easing Good) (added_at offset own stops)
added-easing Good offset own stops = chosen Good offset own (has_stop_at offset stops)
  where
    chosen :
        (Good : Easing → Type 0) (offset : ℕ) (own : Value) (test : Bool)
        → All (λ (stop : Stop). IfSome stop.easing Good) (if test then [] else record { offset = offset; value = own; easing = None } ∷ [])
    chosen Good offset own true = λ k d within. absurd (omega arith)
    chosen Good offset own false = All-cons (λ (stop : Stop). IfSome stop.easing Good) (record { offset = offset; value = own; easing = None }) [] tt (λ k d within. absurd (omega arith))

whole-easing :
    (Good : Easing → Type 0) (own : Value) (stops : List Stop) → All (λ (stop : Stop). IfSome stop.easing Good) stops
    → All (λ (stop : Stop). IfSome stop.easing Good) (whole own stops)
whole-easing Good own stops all =
    let Plain : Stop → Type 0 = λ (stop : Stop). IfSome stop.easing Good in
    All-append Plain (added_at 0 own stops) (stops ++ added_at 10000 own stops) (added-easing Good 0 own stops)
    (All-append Plain stops (added_at 10000 own stops) all (added-easing Good 10000 own stops))

own-easing : (Good : Easing → Type 0) (own : Option Easing) (easing : Easing) → IfSome own Good → Good easing → Good (unwrap_or own easing)
own-easing Good None easing first second = second
own-easing Good (Some other) easing first second = first

-- the easing of an interval is one of the keyframes' or the animation's
interval-easing :
    (Good : Easing → Type 0) (frames : List Keyframe) (prop : Prop) (own : Value) (easing : Easing) (at : Fraction) (interval : Interval)
    → All (λ (frame : Keyframe). IfSome frame.easing Good) frames → Good easing → interval_of frames prop own easing at ≡ Some interval
    → Good interval.easing
interval-easing Good frames prop own easing at interval all good e =
    let stops : List Stop = whole own (stops_of prop frames) in
    let found = interval-found frames prop own easing at interval e in
    let Plain : Stop → Type 0 = λ (stop : Stop). IfSome stop.easing Good in
    let first = All-slice_get Plain (filter (is_reached at) stops) _ found.first
    (All-filter (is_reached at) Plain stops (whole-easing Good own (stops_of prop frames) (stops-easing Good prop frames all))) found.first_is in
    subst (λ (i : Interval). Good i.easing) found.interval_is (own-easing Good found.first.easing easing first good)

-- no curve, and in its limits
pub record IsPlain (easing : Easing) : Type 0 where
  pub straight : IsNoCurve easing
  pub valid : IsEasing easing

-- an interval by an easing of some sort, at a distance from 0 to 1
pub record IsSoundInterval (Good : Easing → Type 0) (interval : Interval) : Type 0 where
  pub easing : Good interval.easing
  pub distance : IsPart interval.distance

-- the eased distance of such an interval has a positive denominator
pub eased-positive : (easing : Easing) (at : Fraction) → IsPlain easing → IsPart at → 0 < (eased easing at).den
eased-positive Linear at plain part = part.positive
eased-positive (Steps count jump) at plain part = (stepped-part count jump at plain.valid).positive
eased-positive (Cubic x1 y1 x2 y2) at plain part = absurd plain.straight

-- an animation and the keyframes of its set are eased by easings of some sort
record IsEasedBy (Good : Easing → Type 0) (sets : List KeyframeSet) (anim : Anim) : Type 0 where
  own : Good anim.easing
  keyframes : IfSome (slice_get sets anim.set) (λ (set : KeyframeSet). All (λ (key : Keyframe). IfSome key.easing Good) set.frames)

-- its interval is such
interval-sound :
    (Good : Easing → Type 0) (sets : List KeyframeSet) (setup : Setup) (frame : ℕ) (prop : Prop) (own : Value) (anim : Anim) (interval : Interval)
    → IsEasedBy Good sets anim → interval_at sets setup frame prop own anim ≡ Some interval → IsSoundInterval Good interval
interval-sound Good sets setup frame prop own anim interval eased e =
    option_and_then_some
    (λ (set : KeyframeSet). option_and_then (interval_of set.frames prop own anim.easing) (progress_of setup anim frame))
    (slice_get sets anim.set) interval e
    (λ set set_is rest. option_and_then_some (interval_of set.frames prop own anim.easing) (progress_of setup anim frame) interval rest
    (λ at at_is here. record {
      easing = interval-easing Good set.frames prop own anim.easing at interval
          (subst (λ (o : Option KeyframeSet). IfSome o (λ (s : KeyframeSet). All (λ (key : Keyframe). IfSome key.easing Good) s.frames)) set_is eased.keyframes)
          eased.own here;
      distance = distance-is_part set.frames prop own anim.easing at interval (progress-part setup anim frame at at_is) here;
    }))

-- so a course is still, or on such an interval
abbrev pub SoundOn : (Easing → Type 0) → Course → Type 0
SoundOn Good (still x) = Unit {0}
SoundOn Good (moving interval) = IsSoundInterval Good interval

abbrev pub IsPlainOn : Course → Type 0
IsPlainOn course = SoundOn IsPlain course

sound-if : (Good : Easing → Type 0) (test : Bool) (x : Value) (course : Course) → SoundOn Good course → SoundOn Good (if test then still x else course)
sound-if Good true x course sound = tt
sound-if Good false x course sound = sound

sound-by :
    (Good : Easing → Type 0) (own : Value) (o : Option Interval) → ((interval : Interval) → o ≡ Some interval → IsSoundInterval Good interval)
    → SoundOn Good (course_by own o)
sound-by Good own None each = tt
sound-by Good own (Some interval) each = each interval refl

course-sound :
    (Good : Easing → Type 0) (scene : Scene) (setup : Setup) (frame : ℕ) (layer : Layer) (prop : Prop)
    → All (IsEasedBy Good scene.sets) layer.anims → SoundOn Good (course_of scene setup frame layer prop)
course-sound Good scene setup frame layer prop anims =
    let own : Value = declared layer prop in
    let intervals : List Interval = filter_map (interval_at scene.sets setup frame prop own) layer.anims in
    let all = All-filter_map (interval_at scene.sets setup frame prop own) (IsSoundInterval Good) layer.anims
    (λ k d within interval e. interval-sound Good scene.sets setup frame prop own (get_or layer.anims k d) interval (anims k d within) e) in
    sound-if Good (is_held layer.important prop) own (course_by own (last_of intervals))
    (sound-by Good own (last_of intervals) (λ interval e. All-slice_get (IsSoundInterval Good) intervals (length intervals - 1) interval all e))

-- what holds of the element that a list has holds where it has one
some-of : {X : Type 0} (P : X → Type 0) (o : Option X) → ((x : X) → o ≡ Some x → P x) → IfSome o P
some-of P None each = tt
some-of P (Some x) each = each x refl

-- in a valid scene each easing is in its limits
eased-valid : (scene : Scene) (layer : Layer) → IsValid scene → IsLayer (length scene.sets) layer → All (IsEasedBy IsEasing scene.sets) layer.anims
eased-valid scene layer valid in_use k d within = record {
  own = (in_use.animations k d within).easing;
  keyframes = some-of (λ (set : KeyframeSet). All (λ (key : Keyframe). IfSome key.easing IsEasing) set.frames)
      (slice_get scene.sets (get_or layer.anims k d).set)
      (λ set e j key inside.
      let good : IsSetInUse set = All-slice_get IsSetInUse scene.sets (get_or layer.anims k d).set set valid.sets e in
      (good.is_set.frames j key inside).easing);
}

pub scene-sound :
    (scene : Scene) (setup : Setup) (frame number : ℕ) (layer : Layer) (prop : Prop) → IsValid scene
    → slice_get scene.layers number ≡ Some layer → SoundOn IsEasing (course_of scene setup frame layer prop)
scene-sound scene setup frame number layer prop valid e =
    let in_use : IsLayer (length scene.sets) layer = All-slice_get (IsLayer (length scene.sets)) scene.layers number layer valid.layers e in
    course-sound IsEasing scene setup frame layer prop (eased-valid scene layer valid in_use)

-- a valid scene without curves has plain easings alone
plain-some : (o : Option Easing) → IfSome o IsEasing → IfSome o IsNoCurve → IfSome o IsPlain
plain-some None valid straight = tt
plain-some (Some easing) valid straight = record { straight = straight; valid = valid }

plain-keyframes :
    (o : Option KeyframeSet) → IfSome o (λ (set : KeyframeSet). All (λ (key : Keyframe). IfSome key.easing IsEasing) set.frames)
    → IfSome o (λ (set : KeyframeSet). All (λ (key : Keyframe). IfSome key.easing IsNoCurve) set.frames)
    → IfSome o (λ (set : KeyframeSet). All (λ (key : Keyframe). IfSome key.easing IsPlain) set.frames)
plain-keyframes None valid straight = tt
plain-keyframes (Some set) valid straight =
    λ k d within. plain-some (get_or set.frames k d).easing (valid k d within) (straight k d within)

pub scene-plain :
    (scene : Scene) (setup : Setup) (frame number : ℕ) (layer : Layer) (prop : Prop) → IsValid scene → HasNoCurve scene
    → slice_get scene.layers number ≡ Some layer → IsPlainOn (course_of scene setup frame layer prop)
scene-plain scene setup frame number layer prop valid none e =
    let in_use : IsLayer (length scene.sets) layer = All-slice_get (IsLayer (length scene.sets)) scene.layers number layer valid.layers e in
    let limits = eased-valid scene layer valid in_use in
    let straight = All-slice_get (λ (l : Layer). All (IsStraight scene.sets) l.anims) scene.layers number layer none e in
    course-sound IsPlain scene setup frame layer prop (λ k d within. record {
      own = record { straight = (straight k d within).own; valid = (limits k d within).own };
      keyframes = plain-keyframes (slice_get scene.sets (get_or layer.anims k d).set) (limits k d within).keyframes (straight k d within).keyframes;
    })
