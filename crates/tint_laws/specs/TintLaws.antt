-- The exact colour of a pixel lies in its tint, where the exact states of the layers lie in the loose ones; and the tint by some loose
-- states lies in that by looser ones.
use Rattle.std.specs.Prelude.{ℕ, pos, ◌<◌, ◌≤ℤ◌, length}
use Rattle.page_model.specs.declared.scene.Scene.{Scene}
use Rattle.page_model.specs.Colour.{painted}
use Rattle.page_model.specs.Enclosure.{Loose, LooseState}
use Rattle.page_model.specs.LayerAt.{State}
use Rattle.page_model.specs.TintOf.{tint_of}
use Rattle.page_model.specs.ValidScene.{IsValid}
use Rattle.tint_laws.specs.NestLaws.{LiesIn}
use Rattle.curve_laws.specs.SlotLaws.{IsWithin, LooseWithin, Agrees, IsLooser}
use Rattle.flash_laws.specs.SureLaws.{IsOf}

-- a state lies in a loose one, whose cover and alpha are at most 255
pub record StateWithin (loose : LooseState) (state : State) : Type 0 where
  pub red : IsWithin loose.red (pos state.red)
  pub green : IsWithin loose.green (pos state.green)
  pub blue : IsWithin loose.blue (pos state.blue)
  pub cover : IsWithin loose.cover (pos state.cover)
  pub solid : loose.cover.hi ≤ℤ pos 255
  pub alpha : IsWithin loose.alpha (pos state.alpha)
  pub opaque : loose.alpha.hi ≤ℤ pos 255
  pub shown : Agrees loose.shown state.shown
  pub left : IsWithin loose.left state.left
  pub top : IsWithin loose.top state.top
  pub width : IsWithin loose.width state.width
  pub height : IsWithin loose.height state.height

-- so do the states of all layers
abbrev pub StatesWithin : Scene → (ℕ → LooseState) → (ℕ → State) → Type 0
StatesWithin scene loose states = (number : ℕ) → number < length scene.layers → StateWithin (loose number) (states number)

abbrev pub TintsHoldColours : Type 0
TintsHoldColours =
    (scene : Scene) → IsValid scene → (loose : ℕ → LooseState) (states : ℕ → State) → StatesWithin scene loose states
    → (column row : ℕ) → IsOf (tint_of scene loose column row) (painted scene states column row)

-- a loose slot lies in another, and has its ends in order; so do all slots of a loose state
pub record LooseIn (outer inner : Loose) : Type 0 where
  pub within : LooseWithin outer inner
  pub order : inner.lo ≤ℤ inner.hi

pub record LooseStateWithin (outer inner : LooseState) : Type 0 where
  pub red : LooseIn outer.red inner.red
  pub green : LooseIn outer.green inner.green
  pub blue : LooseIn outer.blue inner.blue
  pub cover : LooseIn outer.cover inner.cover
  pub solid : outer.cover.hi ≤ℤ pos 255
  pub alpha : LooseIn outer.alpha inner.alpha
  pub opaque : outer.alpha.hi ≤ℤ pos 255
  pub shown : IsLooser outer.shown inner.shown
  pub left : LooseIn outer.left inner.left
  pub top : LooseIn outer.top inner.top
  pub width : LooseIn outer.width inner.width
  pub height : LooseIn outer.height inner.height

abbrev pub LooseStatesWithin : Scene → (ℕ → LooseState) → (ℕ → LooseState) → Type 0
LooseStatesWithin scene outer inner = (number : ℕ) → number < length scene.layers → LooseStateWithin (outer number) (inner number)

-- the tint by the inner states lies in that by the outer ones
abbrev pub TintsHoldTints : Type 0
TintsHoldTints =
    (scene : Scene) → IsValid scene → (outer inner : ℕ → LooseState) → LooseStatesWithin scene outer inner
    → (column row : ℕ) → LiesIn (tint_of scene outer column row) (tint_of scene inner column row)
