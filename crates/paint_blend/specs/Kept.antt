-- Which layers changed from one frame to the next, and which of them a pixel doesn't see.
use Rattle.std.specs.Prelude.{ℕ, ◌≡◌, ◌≢◌, ◌⊎◌, ◌<◌, ◌≤◌, All, Contains, List, length, slice_get}
use Rattle.frame_state.specs.declared.types.LayerState.{LayerState}
use Rattle.frame_state.specs.States.{IsInSlots, states_as}
use Rattle.paint_blend.specs.Paint.{IsMissed}

-- all states are in their slots
abbrev pub AreAllReady : List LayerState → Type 0
AreAllReady states = (number : ℕ) → number < length states → IsInSlots (states_as states number)

-- two states have the same colour, and the same place
pub record HaveSameColour (first second : LayerState) : Type 0 where
  pub red : first.r ≡ second.r
  pub green : first.g ≡ second.g
  pub blue : first.b ≡ second.b
  pub cover : first.cover ≡ second.cover
  pub alpha : first.alpha ≡ second.alpha

pub record HaveSamePlace (first second : LayerState) : Type 0 where
  pub left : first.left ≡ second.left
  pub top : first.top ≡ second.top
  pub width : first.width ≡ second.width
  pub height : first.height ≡ second.height

-- a layer's state differs from the one before
pub record IsChanged (before now : List LayerState) (number : ℕ) : Type 0 where
  pub there : number < length now
  pub differs : slice_get before number ≢ slice_get now number

-- these are the layers below a number whose states differ: each such layer is one of them, and no other
pub record AreChangedBelow (before now : List LayerState) (end : ℕ) (changed : List ℕ) : Type 0 where
  pub all : (number : ℕ) → number < end → Contains changed number ⊎ (slice_get before number ≡ slice_get now number)
  pub only : All (IsChanged before now) changed

abbrev pub AreChanged : List LayerState → List LayerState → List ℕ → Type 0
AreChanged before now changed = AreChangedBelow before now (length now) changed

-- a layer is a box, and a pixel misses it by both of its states
pub record MissesBoth (before now : List LayerState) (column row number : ℕ) : Type 0 where
  pub box : 1 ≤ number
  pub earlier : IsMissed (states_as before number) column row
  pub later : IsMissed (states_as now number) column row
