-- Exact values are relations. It is impossible that there are none, so a statement on all of them is no empty talk. (To name one would
-- want excluded middle: a curve's value may lie so near a whole number's edge that no search of ours ends.)
use Rattle.std.specs.Prelude.{ℕ, ℤ, Bool, ◌≤ℤ◌}
use Rattle.page_model.specs.declared.setup.Setup.{Setup}
use Rattle.page_model.specs.declared.easing.Easing.{Easing}
use Rattle.page_model.specs.declared.scene.Layer.{Layer}
use Rattle.page_model.specs.declared.scene.Scene.{Scene}
use Rattle.page_model.specs.Colour.{IsRunIn}
use Rattle.page_model.specs.Fraction.{Fraction}
use Rattle.page_model.specs.LayerAt.{IsStateAt}
use Rattle.page_model.specs.Slot.{Slot, Shade, IsSlotValue, IsChannelValue, IsShownValue}

-- it can't be that nothing meets a fact
abbrev pub IsMet : {A : Type 0} → (A → Type 0) → Type 0
IsMet {A} Meets = ((a : A) → Meets a → ⊥) → ⊥

-- a slot whose range isn't empty has a value on each way, by each easing, at each input
abbrev pub SlotHasValue : Type 0
SlotHasValue =
    (slot : Slot) (easing : Easing) (at : Fraction) (from to : ℤ) → slot.least ≤ℤ slot.greatest
    → IsMet (IsSlotValue slot easing at from to)

-- so has a channel
abbrev pub ChannelHasValue : Type 0
ChannelHasValue = (easing : Easing) (at : Fraction) (from to : Shade) → IsMet (IsChannelValue easing at from to)

-- and it is shown or not
abbrev pub ShownHasValue : Type 0
ShownHasValue = (easing : Easing) (at : Fraction) (from to : Bool) → IsMet (IsShownValue easing at from to)

-- each layer has an exact state in each frame
abbrev pub StateExists : Type 0
StateExists = (scene : Scene) (setup : Setup) (frame : ℕ) (layer : Layer) → IsMet (IsStateAt scene setup frame layer)

-- each window has a run of exact states: of any scene, valid or not
abbrev pub RunExists : Type 0
RunExists = (scene : Scene) (setup : Setup) (start : ℕ) → IsMet (IsRunIn scene setup start)
