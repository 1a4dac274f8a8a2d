-- Where no easing is a curve, what the relations say is computed.
use Rattle.std.specs.Prelude.{ℕ, ℤ, Bool, ◌≡◌, ◌↔◌, ◌<◌, ◌≤ℤ◌, List, Some, All, IfSome, slice_get, option_map, unwrap_or}
use Rattle.page_model.specs.declared.setup.Setup.{Setup}
use Rattle.page_model.specs.declared.animation.Anim.{Anim}
use Rattle.page_model.specs.declared.easing.Easing.{Easing}
use Rattle.page_model.specs.declared.easing.Easing.TheVariants.{Linear, Steps, Cubic}
use Rattle.page_model.specs.declared.keyframe.Keyframe.{Keyframe}
use Rattle.page_model.specs.declared.keyframe.KeyframeSet.{KeyframeSet}
use Rattle.page_model.specs.declared.scene.Layer.{Layer}
use Rattle.page_model.specs.declared.scene.Scene.{Scene}
use Rattle.page_model.specs.Colour.{Run, IsRunIn, IsSafeScene, painting_of}
use Rattle.page_model.specs.Curve.{eased}
use Rattle.page_model.specs.Flash.{IsSafe}
use Rattle.page_model.specs.Fraction.{Fraction}
use Rattle.page_model.specs.LayerAt.{State, IsStateAt, state_at}
use Rattle.page_model.specs.Slot.{Slot, Shade, IsSlotValue, IsChannelValue, IsShownValue, slot_value, channel_value, shown_value}
use Rattle.page_model.specs.ValidScene.{IsValid}
use Rattle.state_laws.specs.NoState.{no_state}

-- an easing is `linear` or `steps`
abbrev pub IsNoCurve : Easing → Type 0
IsNoCurve Linear = Unit {0}
IsNoCurve (Steps count jump) = Unit {0}
IsNoCurve (Cubic x1 y1 x2 y2) = ⊥

-- the value of a slot is the eased fraction on its way, rounded half up and held in the range
abbrev pub SlotIsComputed : Type 0
SlotIsComputed =
    (slot : Slot) (easing : Easing) (at : Fraction) (from to v : ℤ) → IsNoCurve easing → 0 < slot.unit
    → slot.least ≤ℤ slot.greatest → 0 < (eased easing at).den
    → (IsSlotValue slot easing at from to v ↔ (v ≡ slot_value slot from to (eased easing at)))

-- the value of a channel is the premultiplied channel over the alpha, rounded half up, and 0 where there is no alpha
abbrev pub ChannelIsComputed : Type 0
ChannelIsComputed =
    (easing : Easing) (at : Fraction) (from to : Shade) (v : ℤ) → IsNoCurve easing → 0 < (eased easing at).den
    → (IsChannelValue easing at from to v ↔ (v ≡ channel_value from to (eased easing at)))

-- so is whether a layer is shown
abbrev pub ShownIsComputed : Type 0
ShownIsComputed =
    (easing : Easing) (at : Fraction) (from to shown : Bool) → IsNoCurve easing
    → (IsShownValue easing at from to shown ↔ (shown ≡ shown_value from to (eased easing at)))

-- an animation is eased without a curve: by its own easing, and by those of the keyframes of its set
pub record IsStraight (sets : List KeyframeSet) (anim : Anim) : Type 0 where
  pub own : IsNoCurve anim.easing
  pub keyframes : IfSome (slice_get sets anim.set) (λ (set : KeyframeSet). All (λ (frame : Keyframe). IfSome frame.easing IsNoCurve) set.frames)

-- a scene without curves: each animation of a layer is eased so, whatever a set has that none uses
abbrev pub HasNoCurve : Scene → Type 0
HasNoCurve scene = All (λ (layer : Layer). All (IsStraight scene.sets) layer.anims) scene.layers

-- a layer of such a scene has, in each frame, the state that is computed, and no other
abbrev pub StateIsComputed : Type 0
StateIsComputed =
    (scene : Scene) (setup : Setup) (frame number : ℕ) (layer : Layer) (state : State) → IsValid scene → HasNoCurve scene
    → slice_get scene.layers number ≡ Some layer
    → (IsStateAt scene setup frame layer state ↔ (state ≡ state_at scene setup frame layer))

-- the states of all layers in all frames, computed
abbrev pub computed_run : Scene → Setup → Run
computed_run scene setup frame number =
    unwrap_or (option_map (state_at scene setup frame) (slice_get scene.layers number)) no_state

-- they are a run of exact states, in each window
abbrev pub RunIsComputed : Type 0
RunIsComputed =
    (scene : Scene) (setup : Setup) (start : ℕ) → IsValid scene → HasNoCurve scene
    → IsRunIn scene setup start (computed_run scene setup)

-- so such a scene is safe exactly where what is computed and painted is
abbrev pub SafetyIsComputed : Type 0
SafetyIsComputed =
    (scene : Scene) (setup : Setup) → IsValid scene → HasNoCurve scene
    → (IsSafeScene scene setup ↔ IsSafe (painting_of scene (computed_run scene setup)) setup)
