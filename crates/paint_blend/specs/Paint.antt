-- The code's own types as the definitions have them, which states can be painted, and which tints have their ends in order.
use Rattle.std.specs.Prelude.{ℕ, pos, Some, ◌≡◌, ◌<◌, ◌≤◌, List, All, length, slice_get, IsSome}
use Rattle.page_model.specs.declared.colour.Tint.{Tint}
use Rattle.page_model.specs.declared.scene.Layer.{Layer}
use Rattle.page_model.specs.declared.scene.Scene.{Scene}
use Rattle.page_model.specs.declared.setup.Setup.{Setup}
use Rattle.page_model.specs.Enclosure.{IsLooseStateAt, LooseState, surely, surely_not, wide}
use Rattle.page_model.specs.LayerAt.{IsStateAt, State}
use Rattle.page_model.specs.TintOf as definition
use Rattle.page_model.specs.TintOf.{both, covers_surely, painted_where, span_of, tint_by, tint_over}
use Rattle.frame_state.specs.declared.types.LayerState.{LayerState}
use Rattle.frame_state.specs.States.{IsInSlots, known, states_as}
use Rattle.paint_blend.specs.declared.span.Span.{Span}

abbrev pub span_as : Span → definition.Span
span_as span = record { lo = span.lo; hi = span.hi }

-- a state painted where it is shown and covers the pixel
abbrev pub box_over : LooseState → ℕ → ℕ → Tint → Tint
box_over state column row backdrop =
    painted_where (both state.shown (covers_surely state column row)) (tint_over state (span_of state.alpha) backdrop) backdrop

-- a state surely is shown and covers the pixel, and is opaque for sure: cover and alpha are the greatest, even at their lower ends
pub record HidesAt (state : LooseState) (column row : ℕ) : Type 0 where
  pub is_there : both state.shown (covers_surely state column row) ≡ surely
  pub cover : state.cover.lo ≡ pos 255
  pub alpha : state.alpha.lo ≡ pos 255

-- a state surely isn't shown, or doesn't cover the pixel
abbrev pub IsMissed : LooseState → ℕ → ℕ → Type 0
IsMissed state column row = both state.shown (covers_surely state column row) ≡ surely_not

-- a state's own colour as a tint
abbrev pub own_tint : LooseState → Tint
own_tint state = tint_by (span_of state.red) (span_of state.green) (span_of state.blue)

-- what lies under an opaque box isn't seen: it paints its own colour, whatever is there before
abbrev pub OpaqueHides : LooseState → Type 0
OpaqueHides state =
    (column row : ℕ) (backdrop : Tint) → HidesAt state column row → box_over state column row backdrop ≡ own_tint state

-- the state of a box is there, and in its slots
pub record IsReadyBox (states : List LayerState) (number : ℕ) : Type 0 where
  pub there : number < length states
  pub ready : IsInSlots (states_as states number)

-- the states of the boxes with these numbers are
abbrev pub AreReadyBoxes : List LayerState → List ℕ → Type 0
AreReadyBoxes states boxes = All (IsReadyBox states) boxes

-- the states of the layers with a colour are in their slots
abbrev pub AreReady : Scene → (ℕ → LooseState) → Type 0
AreReady scene states =
    (number : ℕ) (layer : Layer) → slice_get scene.layers number ≡ Some layer → IsSome layer.colour → IsInSlots (states number)

-- loose states are known ones: each has the exact state's values at both ends
abbrev pub AreKnown : Scene → (ℕ → LooseState) → (ℕ → State) → Type 0
AreKnown scene loose states = (number : ℕ) → number < length scene.layers → loose number ≡ known (states number)

-- states are the exact ones of all layers in a frame
abbrev pub AreStates : Scene → Setup → ℕ → (ℕ → State) → Type 0
AreStates scene setup frame states =
    (number : ℕ) (layer : Layer) → slice_get scene.layers number ≡ Some layer → IsStateAt scene setup frame layer (states number)

-- loose states are those of all layers in a frame by the wide kind
abbrev pub AreWide : Scene → Setup → ℕ → (ℕ → LooseState) → Type 0
AreWide scene setup frame states =
    (number : ℕ) (layer : Layer) → slice_get scene.layers number ≡ Some layer → IsLooseStateAt wide scene setup frame layer (states number)

-- in each channel the lower end of a tint is at most the upper one
pub record IsOrdered (tint : Tint) : Type 0 where
  pub red : tint.lo.r ≤ tint.hi.r
  pub green : tint.lo.g ≤ tint.hi.g
  pub blue : tint.lo.b ≤ tint.hi.b
