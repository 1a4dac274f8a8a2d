-- Where no easing in use is a curve those of the intervals are none.
use Rattle.std.proofs.Common.{◌≡◌, ℕ, Bool, false, List, [], ◌∷◌, All, IfSome, Option, Some, None, get_or, slice_get, arith}
use Rattle.std.specs.List.{list_any}
use Rattle.std.proofs.lemmas.Bool.{or_parts}
use Rattle.std.proofs.lemmas.List.Elements.{All-cons}
use Rattle.page_model.specs.declared.animation.Anim.{Anim}
use Rattle.page_model.specs.declared.easing.Easing.{Easing}
use Rattle.page_model.specs.declared.keyframe.KeyframeSet.{KeyframeSet}
use Rattle.page_model.specs.declared.property.Prop.{Prop}
use Rattle.page_model.specs.declared.scene.Layer.{Layer}
use Rattle.page_model.specs.declared.scene.Scene.{Scene}
use Rattle.page_model.specs.Fraction.{Fraction}
use Rattle.page_model.specs.Keyframes.{Interval}
use Rattle.easing_bounds.specs.Value as easings
use Rattle.keyframe_sets.specs.Here.{interval_here}
use Rattle.layer_ways.proofs.PlainLemmas.{All-slice_get, HaveEasings, interval-good}
use Rattle.frame_state.specs.Scenes.{is_cubic, is_curved, passes, runs_curved, set_passes}

-- where no element passes a test
none_passes : {X : Type 0} (test : X → Bool) (xs : List X) → list_any test xs ≡ false → All (λ x. test x ≡ false) xs
none_passes test [] none = λ k d within. absurd (omega arith)
none_passes test (x ∷ xs) none =
    let parts = or_parts (test x) (list_any test xs) none in
    All-cons (λ x. test x ≡ false) x xs parts.0 (none_passes test xs parts.1)

-- an easing that is no curve
abbrev IsStraight : Easing → Type 0
IsStraight easing = easings.is_cubic easing ≡ false

straight-own : (own : Option Easing) → passes easings.is_cubic own ≡ false → IfSome own IsStraight
straight-own None straight = tt
straight-own (Some easing) straight = straight

straight-easings : (scene : Scene) (number place : ℕ) (layer : Layer) (anim : Anim) (set : KeyframeSet) → is_cubic scene ≡ false
    → slice_get scene.layers number ≡ Some layer → slice_get layer.anims place ≡ Some anim → slice_get scene.sets anim.set ≡ Some set
    → HaveEasings IsStraight set anim
straight-easings scene number place layer anim set none layer_is anim_is set_is =
    let layers = none_passes (λ (l : Layer). list_any (runs_curved scene.sets) l.anims) scene.layers none in
    let anims : list_any (runs_curved scene.sets) layer.anims ≡ false =
    All-slice_get (λ (l : Layer). list_any (runs_curved scene.sets) l.anims ≡ false) scene.layers number layer layers layer_is in
    let straight : runs_curved scene.sets anim ≡ false =
    All-slice_get (λ (a : Anim). runs_curved scene.sets a ≡ false) layer.anims place anim (none_passes (runs_curved scene.sets) layer.anims anims) anim_is in
    let parts = or_parts (easings.is_cubic anim.easing) (set_passes (λ (s : KeyframeSet). list_any is_curved s.frames) scene.sets anim) straight in
    let frames : list_any is_curved set.frames ≡ false = rw set_is at parts.1 in
    record {
      animation = parts.0;
      frames = λ k d within. straight-own (get_or set.frames k d).easing (none_passes is_curved set.frames frames k d within);
    }

pub interval-straight : (scene : Scene) (number place : ℕ) (prop : Prop) (at : Fraction) (interval : Interval) → is_cubic scene ≡ false
    → interval_here scene number place prop at ≡ Some interval → easings.is_cubic interval.easing ≡ false
interval-straight scene number place prop at interval none =
    interval-good IsStraight scene number place prop at interval
    (λ layer anim set. straight-easings scene number place layer anim set none)
