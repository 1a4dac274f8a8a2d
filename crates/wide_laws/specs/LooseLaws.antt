-- States as a kind of enclosure knows them: there is always one, and one alone; the exact kind is exact, and the wide kind holds it.
use Rattle.std.specs.Prelude.{ℕ, ℤ, pos, Bool, true, false, ◌≡◌, ◌≤ℤ◌}
use Rattle.page_model.specs.declared.setup.Setup.{Setup}
use Rattle.page_model.specs.declared.scene.Layer.{Layer}
use Rattle.page_model.specs.declared.scene.Scene.{Scene}
use Rattle.page_model.specs.Enclosure.{Kind, exact, wide, Loose, LooseState, one_value, Sureness, surely, surely_not, IsLooseStateAt}
use Rattle.page_model.specs.LayerAt.{State, IsStateAt}
use Rattle.page_model.specs.TintOf.{IsLooseRunIn}
use Rattle.state_laws.specs.RunLaws.{IsMet}

-- each window has a run of states by each kind, of any scene
abbrev pub LooseRunExists : Type 0
LooseRunExists = (kind : Kind) (scene : Scene) (setup : Setup) (start : ℕ) → IsMet (IsLooseRunIn kind scene setup start)

-- and a layer has one such state in a frame
abbrev pub LooseStateIsUnique : Type 0
LooseStateIsUnique =
    (kind : Kind) (scene : Scene) (setup : Setup) (frame : ℕ) (layer : Layer) (state other : LooseState)
    → IsLooseStateAt kind scene setup frame layer state → IsLooseStateAt kind scene setup frame layer other → state ≡ other

abbrev pub sure_of : Bool → Sureness
sure_of true = surely
sure_of false = surely_not

-- a state that is known
abbrev pub known : State → LooseState
known state = record {
  red = one_value (pos state.red);
  green = one_value (pos state.green);
  blue = one_value (pos state.blue);
  cover = one_value (pos state.cover);
  alpha = one_value (pos state.alpha);
  shown = sure_of state.shown;
  left = one_value state.left;
  top = one_value state.top;
  width = one_value state.width;
  height = one_value state.height;
}

-- what the exact kind knows is the exact state
abbrev pub ExactKindIsExact : Type 0
ExactKindIsExact =
    (scene : Scene) (setup : Setup) (frame : ℕ) (layer : Layer) (state : State) → IsStateAt scene setup frame layer state
    → IsLooseStateAt exact scene setup frame layer (known state)

-- a loose value, or state, holds an exact one
pub record Holds (loose : Loose) (v : ℤ) : Type 0 where
  pub least : loose.lo ≤ℤ v
  pub greatest : v ≤ℤ loose.hi

pub record HoldsState (loose : LooseState) (state : State) : Type 0 where
  pub red : Holds loose.red (pos state.red)
  pub green : Holds loose.green (pos state.green)
  pub blue : Holds loose.blue (pos state.blue)
  pub cover : Holds loose.cover (pos state.cover)
  pub alpha : Holds loose.alpha (pos state.alpha)
  pub visible : loose.shown ≡ surely → state.shown ≡ true
  pub hidden : loose.shown ≡ surely_not → state.shown ≡ false
  pub left : Holds loose.left state.left
  pub top : Holds loose.top state.top
  pub width : Holds loose.width state.width
  pub height : Holds loose.height state.height

-- what the wide kind knows holds the exact state
abbrev pub WideHoldsExact : Type 0
WideHoldsExact =
    (scene : Scene) (setup : Setup) (frame : ℕ) (layer : Layer) (state : State) (loose : LooseState)
    → IsStateAt scene setup frame layer state → IsLooseStateAt wide scene setup frame layer loose → HoldsState loose state
