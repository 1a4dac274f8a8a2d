-- Scenes whose colours are all opaque: those that are declared, and those of the keyframes.
use Rattle.std.specs.Prelude.{ℕ, ◌≡◌, All, IfSome}
use Rattle.page_model.specs.declared.colour.Rgba.{Rgba}
use Rattle.page_model.specs.declared.keyframe.Keyframe.{Keyframe}
use Rattle.page_model.specs.declared.keyframe.KeyframeSet.{KeyframeSet}
use Rattle.page_model.specs.declared.property.Setting.{Setting}
use Rattle.page_model.specs.declared.property.Value.{Value}
use Rattle.page_model.specs.declared.property.Value.TheVariants as value
use Rattle.page_model.specs.declared.scene.Layer.{Layer}
use Rattle.page_model.specs.declared.scene.Scene.{Scene}
use Rattle.page_model.specs.Slot.{Shade}

abbrev pub IsOpaque : Rgba → Type 0
IsOpaque c = c.a ≡ 255000

-- a value is no colour, or an opaque one
abbrev pub IsOpaqueValue : Value → Type 0
IsOpaqueValue (value.Colour c) = IsOpaque c
IsOpaqueValue (value.Opacity thousandths) = Unit {0}
IsOpaqueValue (value.Shown visible) = Unit {0}
IsOpaqueValue (value.Length hundredths) = Unit {0}

pub record HasFullAlpha (scene : Scene) : Type 0 where
  pub layers : All (λ (layer : Layer). IfSome layer.colour IsOpaque) scene.layers
  pub sets : All (λ (set : KeyframeSet). All (λ (frame : Keyframe). All (λ (setting : Setting). IsOpaqueValue setting.value) frame.values) set.frames) scene.sets

-- a channel of an opaque colour
abbrev pub opaque : ℕ → Shade
opaque level = record { level = level; alpha = 255000 }
