-- Example pages: a body's background goes from a colour to white, by an animation that is handed in.
use Rattle.std.specs.Prelude.{ℕ, pos, false, true, [], ◌∷◌, Some, None}
use Rattle.page_model.specs.declared.animation.Anim.{Anim}
use Rattle.page_model.specs.declared.colour.Rgba.{Rgba}
use Rattle.page_model.specs.declared.keyframe.Keyframe.{Keyframe}
use Rattle.page_model.specs.declared.keyframe.KeyframeSet.{KeyframeSet}
use Rattle.page_model.specs.declared.property.Prop.TheVariants.{Background}
use Rattle.page_model.specs.declared.property.Value.TheVariants as value
use Rattle.page_model.specs.declared.scene.Layer.{Layer}
use Rattle.page_model.specs.declared.scene.Scene.{Scene}

-- opaque black and white
abbrev pub opaque_black : Rgba
opaque_black = record { r = 0; g = 0; b = 0; a = 255000 }

abbrev pub opaque_white : Rgba
opaque_white = record { r = 255; g = 255; b = 255; a = 255000 }

-- a keyframe with a background colour
abbrev pub keyed : ℕ → Rgba → Keyframe
keyed offset colour = record { offset = offset; easing = None; values = record { prop = Background; value = value.Colour colour } ∷ [] }

-- a colour at the start, and white from an offset on
abbrev pub from_to_white : Rgba → ℕ → KeyframeSet
from_to_white first offset = record { frames = keyed 0 first ∷ (keyed offset opaque_white ∷ []) }

-- a body of that colour with an animation
abbrev pub body_of : Rgba → Anim → Layer
body_of first anim = record {
  colour = Some first;
  opacity = 1000;
  shown = true;
  left = pos 0;
  top = pos 0;
  width = pos 0;
  height = pos 0;
  z = pos 0;
  important = record { background = false; opacity = false; visibility = false; left = false; top = false; width = false; height = false };
  anims = anim ∷ [];
}

abbrev pub page_of : Rgba → Anim → ℕ → Scene
page_of first anim offset = record { layers = body_of first anim ∷ []; order = []; sets = from_to_white first offset ∷ [] }

-- the same from black
abbrev pub turns_white : ℕ → KeyframeSet
turns_white offset = from_to_white opaque_black offset

abbrev pub body_with : Anim → Layer
body_with anim = body_of opaque_black anim

abbrev pub page_with : Anim → ℕ → Scene
page_with anim offset = page_of opaque_black anim offset
