-- The interval in which an animation of a layer has a property at a progress.
use Rattle.std.specs.Prelude.{ℕ, Bool, false, Option, option_map, option_and_then, unwrap_or, slice_get}
use Rattle.page_model.specs.declared.animation.Anim.{Anim}
use Rattle.page_model.specs.declared.keyframe.KeyframeSet.{KeyframeSet}
use Rattle.page_model.specs.declared.property.Prop.{Prop}
use Rattle.page_model.specs.declared.scene.Layer.{Layer}
use Rattle.page_model.specs.declared.scene.Scene.{Scene}
use Rattle.page_model.specs.Fraction.{Fraction}
use Rattle.page_model.specs.Keyframes.{Interval, interval_of, names}
use Rattle.page_model.specs.LayerAt.{declared}

-- by an animation: the interval in its set, where there is one
abbrev pub interval_by : Scene → Layer → Prop → Fraction → Anim → Option Interval
interval_by scene layer prop at anim =
    option_and_then (λ (set : KeyframeSet). interval_of set.frames prop (declared layer prop) anim.easing at)
    (slice_get scene.sets anim.set)

-- by the animation with a number in the layer with a number
abbrev pub interval_here : Scene → ℕ → ℕ → Prop → Fraction → Option Interval
interval_here scene layer anim prop at =
    option_and_then (λ (l : Layer). option_and_then (interval_by scene l prop at) (slice_get l.anims anim))
    (slice_get scene.layers layer)

-- the set of that animation
abbrev pub set_here : Scene → ℕ → ℕ → Option KeyframeSet
set_here scene layer anim =
    option_and_then
    (λ (l : Layer). option_and_then (λ (a : Anim). slice_get scene.sets a.set) (slice_get l.anims anim))
    (slice_get scene.layers layer)

-- whether that set names a property
abbrev pub names_here : Scene → ℕ → ℕ → Prop → Bool
names_here scene layer anim prop =
    unwrap_or (option_map (λ (set : KeyframeSet). names prop set.frames) (set_here scene layer anim)) false
