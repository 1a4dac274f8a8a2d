-- In a valid scene each course is still, or goes by a valid easing: that of a keyframe or of an animation.
use Rattle.std.proofs.Common.{◌≡◌, ℕ, ◌-◌, ◌++◌, Bool, not, List, [], ◌∷◌, length, inl, inr, zero, suc}
use Rattle.std.specs.Prelude.{Option, Some, None, All, IfSome, filter, filter_map, slice_get, option_map, option_and_then, unwrap_or}
use Rattle.std.specs.List.{cons_option}
use Rattle.std.proofs.lemmas.Bool.{cases_Bool}
use Rattle.std.proofs.lemmas.List.Elements.{All-nil, All-cons, All-head, All-tail, All-append}
use Rattle.std.proofs.lemmas.Option.{MatchOption-at_some}
use Rattle.page_model.specs.declared.setup.Setup.{Setup}
use Rattle.page_model.specs.declared.animation.Anim.{Anim}
use Rattle.page_model.specs.declared.easing.Easing.{Easing}
use Rattle.page_model.specs.declared.keyframe.Keyframe.{Keyframe}
use Rattle.page_model.specs.declared.keyframe.KeyframeSet.{KeyframeSet}
use Rattle.page_model.specs.declared.property.Prop.{Prop}
use Rattle.page_model.specs.declared.property.Value.{Value}
use Rattle.page_model.specs.declared.scene.Layer.{Layer}
use Rattle.page_model.specs.declared.scene.Scene.{Scene}
use Rattle.page_model.specs.Fraction.{Fraction}
use Rattle.page_model.specs.Keyframes.{Stop, Interval, value_in, stop_of, stops_of, names, has_stop_at, added_at, whole, is_reached, interval_between, interval_in, interval_of, first_of, last_of}
use Rattle.page_model.specs.LayerAt.{Course, still, moving, declared, is_held, interval_at, course_by, course_of}
use Rattle.page_model.specs.Progress.{progress_of}
use Rattle.page_model.specs.ValidScene.{IsEasing, IsKeyframe, IsSetInUse, IsAnimation, IsLayer, IsValid}

-- what holds of a value that may not be there
any : {X : Type 0} → (o : Option X) → IfSome o (λ _. Unit {0})
any None = tt
any (Some x) = tt

if_map : {X Y : Type 0} (P : X → Type 0) (Q : Y → Type 0) (f : X → Y) (o : Option X) → IfSome o P → ((x : X) → P x → Q (f x))
    → IfSome (option_map f o) Q
if_map P Q f None holds step = tt
if_map P Q f (Some x) holds step = step x holds

if_then : {X Y : Type 0} (P : X → Type 0) (Q : Y → Type 0) (f : X → Option Y) (o : Option X) → IfSome o P
    → ((x : X) → P x → IfSome (f x) Q) → IfSome (option_and_then f o) Q
if_then P Q f None holds step = tt
if_then P Q f (Some x) holds step = step x holds

if_slice : {X : Type 0} (P : X → Type 0) (xs : List X) (k : ℕ) → All P xs → IfSome (slice_get xs k) P
if_slice P [] k all = tt
if_slice P (x ∷ xs) zero all = All-head P x xs all
if_slice P (x ∷ xs) (suc k) all = if_slice P xs k (All-tail P x xs all)

all_filter_map : {X Y : Type 0} (P : X → Type 0) (Q : Y → Type 0) (f : X → Option Y) (xs : List X) → All P xs
    → ((x : X) → P x → IfSome (f x) Q) → All Q (filter_map f xs)
all_filter_map {X} {Y} P Q f [] all step = All-nil Q
all_filter_map {X} {Y} P Q f (x ∷ xs) all step =
    with_option (f x) (filter_map f xs) (step x (All-head P x xs all)) (all_filter_map P Q f xs (All-tail P x xs all) step) where
      with_option : (o : Option Y) (ys : List Y) → IfSome o Q → All Q ys → All Q (cons_option o ys)
      with_option None ys holds rest = rest
      with_option (Some y) ys holds rest = All-cons Q y ys holds rest

all_filter : {X : Type 0} (P : X → Type 0) (test : X → Bool) (xs : List X) → All P xs → All P (filter test xs)
all_filter P test [] all = All-nil P
all_filter P test (x ∷ xs) all =
    elim (cases_Bool (test x)) [
      | inl e ↦ rw e (All-cons P x (filter test xs) (All-head P x xs all) (all_filter P test xs (All-tail P x xs all)))
      | inr e ↦ rw e (all_filter P test xs (All-tail P x xs all))
    ]

-- stops, intervals and courses by valid easings
abbrev IsGoodStop : Stop → Type 0
IsGoodStop stop = IfSome stop.easing IsEasing

abbrev IsGoodInterval : Interval → Type 0
IsGoodInterval interval = IsEasing interval.easing

abbrev pub IsGoodCourse : Course → Type 0
IsGoodCourse (still x) = Unit {0}
IsGoodCourse (moving interval) = IsEasing interval.easing

good_stops : (prop : Prop) (frames : List Keyframe) → All IsKeyframe frames → All IsGoodStop (stops_of prop frames)
good_stops prop frames all =
    all_filter_map IsKeyframe IsGoodStop (stop_of prop) frames all
    (λ frame good. if_map (λ _. Unit {0}) IsGoodStop (λ (value : Value). record { offset = frame.offset; value = value; easing = frame.easing })
    (value_in prop frame.values) (any (value_in prop frame.values)) (λ value _. good.easing))

good_added : (offset : ℕ) (own : Value) (stops : List Stop) → All IsGoodStop (added_at offset own stops)
good_added offset own stops =
    elim (cases_Bool (has_stop_at offset stops)) [
      | inl there ↦ rw there (All-nil IsGoodStop)
      | inr absent ↦ rw absent (All-cons IsGoodStop (record { offset = offset; value = own; easing = None }) [] tt (All-nil IsGoodStop))
    ]

good_whole : (own : Value) (stops : List Stop) → All IsGoodStop stops → All IsGoodStop (whole own stops)
good_whole own stops all =
    All-append IsGoodStop (added_at 0 own stops) (stops ++ added_at 10000 own stops) (good_added 0 own stops)
    (All-append IsGoodStop stops (added_at 10000 own stops) all (good_added 10000 own stops))

good_easing : (o : Option Easing) (easing : Easing) → IfSome o IsEasing → IsEasing easing → IsEasing (unwrap_or o easing)
good_easing None easing first second = second
good_easing (Some x) easing first second = first

good_interval_in : (easing : Easing) (at : Fraction) (stops : List Stop) → IsEasing easing → All IsGoodStop stops
    → IfSome (interval_in easing at stops) IsGoodInterval
good_interval_in easing at stops valid all =
    if_then IsGoodStop IsGoodInterval
    (λ first. option_map (interval_between easing at first) (first_of (filter (λ stop. not (is_reached at stop)) stops)))
    (last_of (filter (is_reached at) stops))
    (if_slice IsGoodStop (filter (is_reached at) stops) (length (filter (is_reached at) stops) - 1) (all_filter IsGoodStop (is_reached at) stops all))
    (λ first good. if_map (λ _. Unit {0}) IsGoodInterval (interval_between easing at first) (first_of (filter (λ stop. not (is_reached at stop)) stops))
    (any (first_of (filter (λ stop. not (is_reached at stop)) stops))) (λ second _. good_easing first.easing easing good valid))

good_interval_of : (frames : List Keyframe) (prop : Prop) (own : Value) (easing : Easing) (at : Fraction) → All IsKeyframe frames
    → IsEasing easing → IfSome (interval_of frames prop own easing at) IsGoodInterval
good_interval_of frames prop own easing at all valid =
    elim (cases_Bool (names prop frames)) [
      | inr absent ↦ rw absent tt
      | inl named ↦ rw named (good_interval_in easing at (whole own (stops_of prop frames)) valid (good_whole own (stops_of prop frames) (good_stops prop frames all)))
    ]

good_interval_at : (sets : List KeyframeSet) (setup : Setup) (frame : ℕ) (prop : Prop) (own : Value) (anim : Anim)
    → All IsSetInUse sets → IsEasing anim.easing → IfSome (interval_at sets setup frame prop own anim) IsGoodInterval
good_interval_at sets setup frame prop own anim all valid =
    if_then IsSetInUse IsGoodInterval
    (λ (set : KeyframeSet). option_and_then (interval_of set.frames prop own anim.easing) (progress_of setup anim frame))
    (slice_get sets anim.set) (if_slice IsSetInUse sets anim.set all)
    (λ set good. if_then (λ _. Unit {0}) IsGoodInterval (interval_of set.frames prop own anim.easing) (progress_of setup anim frame)
    (any (progress_of setup anim frame)) (λ at _. good_interval_of set.frames prop own anim.easing at good.is_set.frames valid))

good_course_by : (own : Value) (o : Option Interval) → IfSome o IsGoodInterval → IsGoodCourse (course_by own o)
good_course_by own None good = tt
good_course_by own (Some interval) good = good

pub good_course_of : (scene : Scene) (setup : Setup) (frame number : ℕ) (layer : Layer) (prop : Prop) → IsValid scene
    → slice_get scene.layers number ≡ Some layer → IsGoodCourse (course_of scene setup frame layer prop)
good_course_of scene setup frame number layer prop valid is =
    let in_limits = MatchOption-at_some (Unit {0}) (IsLayer (length scene.sets)) layer is (if_slice (IsLayer (length scene.sets)) scene.layers number valid.layers) in
    let intervals = all_filter_map (IsAnimation (length scene.sets)) IsGoodInterval (interval_at scene.sets setup frame prop (declared layer prop)) layer.anims in_limits.animations
    (λ anim good. good_interval_at scene.sets setup frame prop (declared layer prop) anim valid.sets good.easing) in
    elim (cases_Bool (is_held layer.important prop)) [
      | inl held ↦ rw held tt
      | inr free ↦ rw free (good_course_by (declared layer prop) (last_of (filter_map (interval_at scene.sets setup frame prop (declared layer prop)) layer.anims))
          (if_slice IsGoodInterval (filter_map (interval_at scene.sets setup frame prop (declared layer prop)) layer.anims)
          (length (filter_map (interval_at scene.sets setup frame prop (declared layer prop)) layer.anims) - 1) intervals))
    ]
