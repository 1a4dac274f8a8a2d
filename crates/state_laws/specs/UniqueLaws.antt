-- A slot has at most one value, and so has what is made of slots.
use Rattle.std.specs.Prelude.{ℕ, ℤ, Bool, ◌≡◌}
use Rattle.page_model.specs.declared.setup.Setup.{Setup}
use Rattle.page_model.specs.declared.easing.Easing.{Easing}
use Rattle.page_model.specs.declared.scene.Layer.{Layer}
use Rattle.page_model.specs.declared.scene.Scene.{Scene}
use Rattle.page_model.specs.Fraction.{Fraction}
use Rattle.page_model.specs.LayerAt.{State, IsStateAt}
use Rattle.page_model.specs.Slot.{Slot, Shade, IsSlotValue, IsChannelValue, IsShownValue}

-- two values of a slot, on the same way by the same easing at the same input, are one
abbrev pub SlotIsUnique : Type 0
SlotIsUnique =
    (slot : Slot) (easing : Easing) (at : Fraction) (from to v w : ℤ) → IsSlotValue slot easing at from to v
    → IsSlotValue slot easing at from to w → v ≡ w

-- so are two values of a channel
abbrev pub ChannelIsUnique : Type 0
ChannelIsUnique =
    (easing : Easing) (at : Fraction) (from to : Shade) (v w : ℤ) → IsChannelValue easing at from to v
    → IsChannelValue easing at from to w → v ≡ w

-- so are two answers whether a layer is shown
abbrev pub ShownIsUnique : Type 0
ShownIsUnique =
    (easing : Easing) (at : Fraction) (from to shown other : Bool) → IsShownValue easing at from to shown
    → IsShownValue easing at from to other → shown ≡ other

-- and two exact states of a layer in a frame
abbrev pub StateIsUnique : Type 0
StateIsUnique =
    (scene : Scene) (setup : Setup) (frame : ℕ) (layer : Layer) (state other : State) → IsStateAt scene setup frame layer state
    → IsStateAt scene setup frame layer other → state ≡ other
