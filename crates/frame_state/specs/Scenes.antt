-- Whether a scene has a cubic easing in use: the project's own. A set of keyframes is in use where an animation of a layer has its
-- number.
use Rattle.std.specs.Prelude.{Bool, false, Option, None, Some, ◌||◌, List, slice_get}
use Rattle.std.specs.List.{list_any}
use Rattle.page_model.specs.declared.animation.Anim.{Anim}
use Rattle.page_model.specs.declared.keyframe.Keyframe.{Keyframe}
use Rattle.page_model.specs.declared.keyframe.KeyframeSet.{KeyframeSet}
use Rattle.page_model.specs.declared.scene.Layer.{Layer}
use Rattle.page_model.specs.declared.scene.Scene.{Scene}
use Rattle.easing_bounds.specs.Value as easings

-- an optional thing is there and passes a test
abbrev pub passes : {X : Type 0} → (X → Bool) → Option X → Bool
passes test None = false
passes test (Some x) = test x

-- some animation of a layer passes a test
abbrev pub some_animation : (Anim → Bool) → Scene → Bool
some_animation test scene = list_any (λ (layer : Layer). list_any test layer.anims) scene.layers

-- the set of an animation passes a test
abbrev pub set_passes : (KeyframeSet → Bool) → List KeyframeSet → Anim → Bool
set_passes test sets anim = passes test (slice_get sets anim.set)

-- a keyframe has a cubic easing of its own
abbrev pub is_curved : Keyframe → Bool
is_curved frame = passes easings.is_cubic frame.easing

-- an animation, or a keyframe of its set, has a cubic easing
abbrev pub runs_curved : List KeyframeSet → Anim → Bool
runs_curved sets anim =
    easings.is_cubic anim.easing || set_passes (λ (set : KeyframeSet). list_any is_curved set.frames) sets anim

abbrev pub is_cubic : Scene → Bool
is_cubic scene = some_animation (runs_curved scene.sets) scene
