-- The easings of the intervals in a valid scene are in their limits, and so are the distances.
use Rattle.std.proofs.Common.{◌≡◌, ℕ, suc, ◌-◌, Bool, true, false, not, List, [], ◌∷◌, ◌++◌, All, IfSome, Option, Some, None, filter, filter_map, get_or, length, slice_get, if◌then◌else◌, option_map, option_and_then, unwrap_or, arith, refl, subst}
use Rattle.std.specs.List.{cons_option}
use Rattle.std.proofs.lemmas.List.Elements.{All-append, All-cons, All-filter}
use Rattle.std.proofs.lemmas.Option.{get_or_from_slice_get, option_and_then_some, slice_get_within}
use Rattle.page_model.specs.declared.animation.Anim.{Anim}
use Rattle.page_model.specs.declared.easing.Easing.{Easing}
use Rattle.page_model.specs.declared.keyframe.Keyframe.{Keyframe}
use Rattle.page_model.specs.declared.keyframe.KeyframeSet.{KeyframeSet}
use Rattle.page_model.specs.declared.property.Prop.{Prop}
use Rattle.page_model.specs.declared.property.Value.{Value}
use Rattle.page_model.specs.declared.scene.Layer.{Layer}
use Rattle.page_model.specs.declared.scene.Scene.{Scene}
use Rattle.page_model.specs.Fraction.{Fraction}
use Rattle.page_model.specs.Keyframes.{Interval, Stop, added_at, first_of, has_stop_at, interval_between, interval_in, interval_of, is_reached, last_of, names, stop_of, stops_of, value_in, whole}
use Rattle.page_model.specs.LayerAt.{declared}
use Rattle.page_model.specs.ValidScene.{IsAnimation, IsEasing, IsLayer, IsSetInUse, IsValid}
use Rattle.fraction_laws.specs.FractionLaws.{IsPart}
use Rattle.fraction_laws.proofs.FractionLemmas.{distance-is_part}
use Rattle.keyframe_sets.specs.Here.{interval_by, interval_here}

-- what is mapped, and what stands under a test
pub mapped_some : {X Y : Type 0} (f : X → Y) (o : Option X) (y : Y) → option_map f o ≡ Some y → (x : X) × (o ≡ Some x) × (f x ≡ y)
mapped_some f None y e = absurd (cc)
mapped_some f (Some x) y e = (x, refl, cc)

tested_some : {X : Type 0} (test : Bool) (o : Option X) (y : X) → (if test then o else None) ≡ Some y → o ≡ Some y
tested_some true o y e = e
tested_some false o y e = absurd (cc)

pub All-slice_get : {X : Type 0} (P : X → Type 0) (xs : List X) (k : ℕ) (x : X) → All P xs → slice_get xs k ≡ Some x → P x
All-slice_get P xs k x all e = subst P (get_or_from_slice_get xs k x x e) (all k x (slice_get_within xs k x e))

-- the stops of some keyframes have their easings, and an added stop has none
All-cons_option : {X : Type 0} (P : X → Type 0) (o : Option X) (xs : List X) → ((x : X) → o ≡ Some x → P x) → All P xs → All P (cons_option o xs)
All-cons_option P None xs here rest = rest
All-cons_option P (Some x) xs here rest = All-cons P x xs (here x refl) rest

pub All-filter_map : {X Y : Type 0} (f : X → Option Y) (P : Y → Type 0) (xs : List X) → All (λ x. (y : Y) → f x ≡ Some y → P y) xs → All P (filter_map f xs)
All-filter_map f P [] each = λ k d within. absurd (omega arith)
All-filter_map f P (x ∷ xs) each =
    All-cons_option P (f x) (filter_map f xs) (each 0 x (omega arith)) (All-filter_map f P xs (λ k d within. each (suc k) d (omega arith)))

stops-easing : (Good : Easing → Type 0) (prop : Prop) (frames : List Keyframe) → All (λ (frame : Keyframe). IfSome frame.easing Good) frames
    → All (λ (stop : Stop). IfSome stop.easing Good) (stops_of prop frames)
stops-easing Good prop frames all =
    All-filter_map (stop_of prop) (λ (stop : Stop). IfSome stop.easing Good) frames (λ k d within stop e.
    let frame : Keyframe = get_or frames k d in
    let found = mapped_some (λ (value : Value). record { offset = frame.offset; value = value; easing = frame.easing }) (value_in prop frame.values) stop e in
    subst (λ (s : Stop). IfSome s.easing Good) found.2 (all k d within))

added-if : (Good : Easing → Type 0) (offset : ℕ) (own : Value) (test : Bool)
    → All (λ (stop : Stop). IfSome stop.easing Good) (if test then [] else record { offset = offset; value = own; easing = None } ∷ [])
added-if Good offset own true = λ k d within. absurd (omega arith)
added-if Good offset own false =
    All-cons (λ (stop : Stop). IfSome stop.easing Good) (record { offset = offset; value = own; easing = None }) [] tt (λ k d within. absurd (omega arith))

whole-easing : (Good : Easing → Type 0) (own : Value) (stops : List Stop) → All (λ (stop : Stop). IfSome stop.easing Good) stops
    → All (λ (stop : Stop). IfSome stop.easing Good) (whole own stops)
whole-easing Good own stops all =
    let P : Stop → Type 0 = λ (stop : Stop). IfSome stop.easing Good in
    All-append P (added_at 0 own stops) (stops ++ added_at 10000 own stops) (added-if Good 0 own (has_stop_at 0 stops))
    (All-append P stops (added_at 10000 own stops) all (added-if Good 10000 own (has_stop_at 10000 stops)))

own-easing : (Good : Easing → Type 0) (first : Option Easing) (easing : Easing) → IfSome first Good → Good easing → Good (unwrap_or first easing)
own-easing Good None easing first second = second
own-easing Good (Some other) easing first second = first

-- the easing of an interval is one of the keyframes' or the animation's
interval-easing : (Good : Easing → Type 0) (frames : List Keyframe) (prop : Prop) (own : Value) (easing : Easing) (at : Fraction) (interval : Interval)
    → All (λ (frame : Keyframe). IfSome frame.easing Good) frames → Good easing → interval_of frames prop own easing at ≡ Some interval
    → Good interval.easing
interval-easing Good frames prop own easing at interval all good e =
    let stops : List Stop = whole own (stops_of prop frames) in
    let reached : List Stop = filter (is_reached at) stops in
    let P : Stop → Type 0 = λ (stop : Stop). IfSome stop.easing Good in
    option_and_then_some
    (λ first. option_map (interval_between easing at first) (first_of (filter (λ stop. not (is_reached at stop)) stops)))
    (last_of reached) interval (tested_some (names prop frames) (interval_in easing at stops) interval e)
    (λ first first_is rest.
    let second = mapped_some (interval_between easing at first) (first_of (filter (λ stop. not (is_reached at stop)) stops)) interval rest in
    let first_good = All-slice_get P reached (length reached - 1) first
    (All-filter (is_reached at) P stops (whole-easing Good own (stops_of prop frames) (stops-easing Good prop frames all))) first_is in
    subst (λ (i : Interval). Good i.easing) second.2 (own-easing Good first.easing easing first_good good))

-- an animation of a layer, and its set, have such easings alone
pub record HaveEasings (Good : Easing → Type 0) (set : KeyframeSet) (anim : Anim) : Type 0 where
  pub animation : Good anim.easing
  pub frames : All (λ (frame : Keyframe). IfSome frame.easing Good) set.frames

pub interval-good : (Good : Easing → Type 0) (scene : Scene) (number place : ℕ) (prop : Prop) (at : Fraction) (interval : Interval)
    → ((layer : Layer) (anim : Anim) (set : KeyframeSet) → slice_get scene.layers number ≡ Some layer
    → slice_get layer.anims place ≡ Some anim → slice_get scene.sets anim.set ≡ Some set → HaveEasings Good set anim)
    → interval_here scene number place prop at ≡ Some interval → Good interval.easing
interval-good Good scene number place prop at interval have e =
    option_and_then_some (λ (l : Layer). option_and_then (interval_by scene l prop at) (slice_get l.anims place)) (slice_get scene.layers number) interval e
    (λ layer layer_is of_layer.
    option_and_then_some (interval_by scene layer prop at) (slice_get layer.anims place) interval of_layer
    (λ anim anim_is of_anim.
    option_and_then_some (λ (set : KeyframeSet). interval_of set.frames prop (declared layer prop) anim.easing at) (slice_get scene.sets anim.set) interval of_anim
    (λ set set_is of_set.
    let good = have layer anim set layer_is anim_is set_is in
    interval-easing Good set.frames prop (declared layer prop) anim.easing at interval good.frames good.animation of_set)))

-- in a valid scene they are in their limits
valid-easings : (scene : Scene) (number place : ℕ) (layer : Layer) (anim : Anim) (set : KeyframeSet) → IsValid scene
    → slice_get scene.layers number ≡ Some layer → slice_get layer.anims place ≡ Some anim → slice_get scene.sets anim.set ≡ Some set
    → HaveEasings IsEasing set anim
valid-easings scene number place layer anim set valid layer_is anim_is set_is =
    let good_layer : IsLayer (length scene.sets) layer = All-slice_get (IsLayer (length scene.sets)) scene.layers number layer valid.layers layer_is in
    let good_anim = All-slice_get (IsAnimation (length scene.sets)) layer.anims place anim good_layer.animations anim_is in
    let good_set : IsSetInUse set = All-slice_get IsSetInUse scene.sets anim.set set valid.sets set_is in
    record {
      animation = good_anim.easing;
      frames = λ k d within. (good_set.is_set.frames k d within).easing;
    }

pub interval-limits : (scene : Scene) (number place : ℕ) (prop : Prop) (at : Fraction) (interval : Interval) → IsValid scene
    → interval_here scene number place prop at ≡ Some interval → IsEasing interval.easing
interval-limits scene number place prop at interval valid =
    interval-good IsEasing scene number place prop at interval
    (λ layer anim set. valid-easings scene number place layer anim set valid)

-- the distance of an interval is from 0 to 1
pub interval-part : (scene : Scene) (number place : ℕ) (prop : Prop) (at : Fraction) (interval : Interval) → IsPart at
    → interval_here scene number place prop at ≡ Some interval → IsPart interval.distance
interval-part scene number place prop at interval part e =
    option_and_then_some (λ (l : Layer). option_and_then (interval_by scene l prop at) (slice_get l.anims place)) (slice_get scene.layers number) interval e
    (λ layer layer_is of_layer.
    option_and_then_some (interval_by scene layer prop at) (slice_get layer.anims place) interval of_layer
    (λ anim anim_is of_anim.
    option_and_then_some (λ (set : KeyframeSet). interval_of set.frames prop (declared layer prop) anim.easing at) (slice_get scene.sets anim.set) interval of_anim
    (λ set set_is of_set. distance-is_part set.frames prop (declared layer prop) anim.easing at interval part of_set)))
