-- The values between which a course is are those of the keyframes that name the property, or the layer's own.
use Rattle.std.proofs.Common.{◌≡◌, ℕ, ◌-◌, Bool, true, false, not, List, [], ◌∷◌, ◌++◌, All, Option, Some, None, filter, filter_map, find, get_or, length, slice_get, if◌then◌else◌, option_and_then, arith, inl, inr, refl, subst}
use Rattle.std.proofs.lemmas.Bool.{cases_Bool}
use Rattle.std.proofs.lemmas.List.Elements.{All-append, All-cons, All-filter, All-head, All-tail}
use Rattle.std.proofs.lemmas.Option.{option_and_then_some}
use Rattle.page_model.specs.declared.animation.Anim.{Anim}
use Rattle.page_model.specs.declared.easing.Easing.{Easing}
use Rattle.page_model.specs.declared.keyframe.Keyframe.{Keyframe}
use Rattle.page_model.specs.declared.keyframe.KeyframeSet.{KeyframeSet}
use Rattle.page_model.specs.declared.property.Prop.{Prop}
use Rattle.page_model.specs.declared.property.Setting.{Setting}
use Rattle.page_model.specs.declared.property.Value.{Value}
use Rattle.page_model.specs.declared.scene.Layer.{Layer}
use Rattle.page_model.specs.declared.scene.Scene.{Scene}
use Rattle.page_model.specs.declared.setup.Setup.{Setup}
use Rattle.page_model.specs.Fraction.{Fraction}
use Rattle.page_model.specs.Keyframes.{Interval, Stop, added_at, has_stop_at, interval_of, is_reached, is_same, last_of, stop_of, stops_of, value_in, whole}
use Rattle.page_model.specs.LayerAt.{Course, still, moving, course_by, course_of, declared, interval_at, is_held}
use Rattle.page_model.specs.Progress.{progress_of}
use Rattle.fraction_laws.proofs.FractionLemmas.{interval-found}
use Rattle.fraction_laws.proofs.ListLemmas.{mapped_some, All-filter_map, All-slice_get}

-- what is found passes the test, and what all do
pub record IsFoundIn {X : Type 0} (P : X → Type 0) (test : X → Bool) (x : X) : Type 0 where
  pub passes : test x ≡ true
  pub good : P x

found-good : {X : Type 0} (P : X → Type 0) (test : X → Bool) (xs : List X) (x : X) → All P xs → find test xs ≡ Some x → IsFoundIn P test x
found-good P test [] x all e = absurd (cc)
found-good P test (y ∷ ys) x all e =
    elim (cases_Bool (test y)) [
      | inl passes ↦
          let same : y ≡ x = let h = rw passes at e in cc in
          subst (IsFoundIn P test) same (record { passes = passes; good = All-head P y ys all })
      | inr fails ↦ found-good P test ys x (All-tail P y ys all) (rw fails at e)
    ]

-- what holds of the values of a property in a setting, in keyframes, and of the two of an interval
abbrev pub OfSetting : (Value → Type 0) → Prop → Setting → Type 0
OfSetting Good prop setting = is_same setting.prop prop ≡ true → Good setting.value

abbrev pub OfFrames : (Value → Type 0) → Prop → List Keyframe → Type 0
OfFrames Good prop frames = All (λ (frame : Keyframe). All (OfSetting Good prop) frame.values) frames

pub record AreValues (Good : Value → Type 0) (interval : Interval) : Type 0 where
  pub from : Good interval.from
  pub to : Good interval.to

stops-value : (Good : Value → Type 0) (prop : Prop) (frames : List Keyframe) → OfFrames Good prop frames → All (λ (stop : Stop). Good stop.value) (stops_of prop frames)
stops-value Good prop frames all =
    All-filter_map (stop_of prop) (λ (stop : Stop). Good stop.value) frames (λ k d within stop e.
    let frame : Keyframe = get_or frames k d in
    let found = mapped_some (λ (value : Value). record { offset = frame.offset; value = value; easing = frame.easing }) (value_in prop frame.values) stop e in
    let setting = mapped_some (λ (setting : Setting). setting.value) (find (λ (setting : Setting). is_same setting.prop prop) frame.values) found.0 found.1 in
    let here = found-good (OfSetting Good prop) (λ (s : Setting). is_same s.prop prop) frame.values setting.0 (all k d within) setting.1 in
    subst (λ (s : Stop). Good s.value) found.2 (subst Good setting.2 (here.good here.passes)))

added-value : (Good : Value → Type 0) (offset : ℕ) (own : Value) (test : Bool) → Good own
    → All (λ (stop : Stop). Good stop.value) (if test then [] else record { offset = offset; value = own; easing = None } ∷ [])
added-value Good offset own true good = λ k d within. absurd (omega arith)
added-value Good offset own false good =
    All-cons (λ (stop : Stop). Good stop.value) (record { offset = offset; value = own; easing = None }) [] good (λ k d within. absurd (omega arith))

whole-value : (Good : Value → Type 0) (own : Value) (stops : List Stop) → Good own → All (λ (stop : Stop). Good stop.value) stops
    → All (λ (stop : Stop). Good stop.value) (whole own stops)
whole-value Good own stops good all =
    let P : Stop → Type 0 = λ (stop : Stop). Good stop.value in
    All-append P (added_at 0 own stops) (stops ++ added_at 10000 own stops) (added-value Good 0 own (has_stop_at 0 stops) good)
    (All-append P stops (added_at 10000 own stops) all (added-value Good 10000 own (has_stop_at 10000 stops) good))

pub interval-values : (Good : Value → Type 0) (frames : List Keyframe) (prop : Prop) (own : Value) (easing : Easing) (at : Fraction) (interval : Interval)
    → OfFrames Good prop frames → Good own → interval_of frames prop own easing at ≡ Some interval → AreValues Good interval
interval-values Good frames prop own easing at interval all good e =
    let stops : List Stop = whole own (stops_of prop frames) in
    let P : Stop → Type 0 = λ (stop : Stop). Good stop.value in
    let every = whole-value Good own (stops_of prop frames) good (stops-value Good prop frames all) in
    let found = interval-found frames prop own easing at interval e in
    let first = All-slice_get P (filter (is_reached at) stops) _ found.first (All-filter (is_reached at) P stops every) found.first_is in
    let second = All-slice_get P (filter (λ stop. not (is_reached at stop)) stops) 0 found.second
    (All-filter (λ stop. not (is_reached at stop)) P stops every) found.second_is in
    subst (AreValues Good) found.interval_is (record { from = first; to = second })

-- and so of a course
abbrev pub GoodOn : (Value → Type 0) → Course → Type 0
GoodOn Good (still x) = Good x
GoodOn Good (moving interval) = AreValues Good interval

abbrev pub OfSets : (Value → Type 0) → Prop → List KeyframeSet → Type 0
OfSets Good prop sets = All (λ (set : KeyframeSet). OfFrames Good prop set.frames) sets

animation-values : (Good : Value → Type 0) (sets : List KeyframeSet) (setup : Setup) (frame : ℕ) (prop : Prop) (own : Value) (anim : Anim) (interval : Interval)
    → OfSets Good prop sets → Good own → interval_at sets setup frame prop own anim ≡ Some interval → AreValues Good interval
animation-values Good sets setup frame prop own anim interval all good e =
    option_and_then_some
    (λ (set : KeyframeSet). option_and_then (interval_of set.frames prop own anim.easing) (progress_of setup anim frame))
    (slice_get sets anim.set) interval e
    (λ set set_is rest.
    option_and_then_some (interval_of set.frames prop own anim.easing) (progress_of setup anim frame) interval rest
    (λ at at_is here.
    interval-values Good set.frames prop own anim.easing at interval
    (All-slice_get (λ (s : KeyframeSet). OfFrames Good prop s.frames) sets anim.set set all set_is) good here))

by-values : (Good : Value → Type 0) (held : Bool) (own : Value) (found : Option Interval) → Good own
    → ((interval : Interval) → found ≡ Some interval → AreValues Good interval) → GoodOn Good (if held then still own else course_by own found)
by-values Good true own found good each = good
by-values Good false own None good each = good
by-values Good false own (Some interval) good each = each interval refl

pub course-values : (Good : Value → Type 0) (scene : Scene) (setup : Setup) (frame : ℕ) (layer : Layer) (prop : Prop) → Good (declared layer prop)
    → OfSets Good prop scene.sets → GoodOn Good (course_of scene setup frame layer prop)
course-values Good scene setup frame layer prop good all =
    let own : Value = declared layer prop in
    let intervals : List Interval = filter_map (interval_at scene.sets setup frame prop own) layer.anims in
    let every = All-filter_map (interval_at scene.sets setup frame prop own) (AreValues Good) layer.anims (λ k d within interval e.
    animation-values Good scene.sets setup frame prop own (get_or layer.anims k d) interval all good e) in
    by-values Good (is_held layer.important prop) own (last_of intervals) good
    (λ interval e. All-slice_get (AreValues Good) intervals (length intervals - 1) interval every e)
