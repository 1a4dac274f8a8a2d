-- No window shows what none of the windows that are looked at shows.
use Rattle.std.specs.Prelude.{ℕ, ◌≡◌, ◌↔◌, ◌+◌, ◌<◌, ◌≤◌, Some, slice_get}
use Rattle.page_model.specs.declared.setup.Setup.{Setup}
use Rattle.page_model.specs.declared.scene.Layer.{Layer}
use Rattle.page_model.specs.declared.scene.Scene.{Scene}
use Rattle.page_model.specs.Enclosure.{IsLooseStateAt, Kind, LooseState}
use Rattle.page_model.specs.Horizon.{IsNeeded, all_animations}
use Rattle.page_model.specs.LayerAt.{State, IsStateAt}
use Rattle.page_model.specs.Time.{HasFrames, window_of}
use Rattle.period_frames.specs.Needed.{IsAsBad}

-- a window has the exact states of another one, frame by frame, and no others
abbrev pub HasStatesOf : Scene → Setup → ℕ → ℕ → Type 0
HasStatesOf scene setup start other =
    (frame number : ℕ) (layer : Layer) (state : State) → frame ≤ window_of setup → slice_get scene.layers number ≡ Some layer
    → (IsStateAt scene setup (other + frame) layer state ↔ IsStateAt scene setup (start + frame) layer state)

-- and so the states of a kind
abbrev pub HasLooseStatesOf : Kind → Scene → Setup → ℕ → ℕ → Type 0
HasLooseStatesOf kind scene setup start other =
    (frame number : ℕ) (layer : Layer) (state : LooseState) → frame ≤ window_of setup → slice_get scene.layers number ≡ Some layer
    → (IsLooseStateAt kind scene setup (other + frame) layer state ↔ IsLooseStateAt kind scene setup (start + frame) layer state)

-- a window is just as another one: it has the same states, and is as bad
pub record IsJustAs (scene : Scene) (setup : Setup) (start other : ℕ) : Type 0 where
  pub states : HasStatesOf scene setup start other
  pub loose_states : (kind : Kind) → HasLooseStatesOf kind scene setup start other
  pub as_bad : IsAsBad scene setup start other

-- a window that starts before a frame is just as another one
pub record IsSeenBefore (scene : Scene) (setup : Setup) (limit start : ℕ) : Type 0 where
  pub earlier : ℕ
  pub early : earlier < limit
  pub same : IsJustAs scene setup earlier start

-- each window is just as one that starts before the needed frames
abbrev pub WindowsRepeat : Type 0
WindowsRepeat =
    (scene : Scene) (setup : Setup) (needed start : ℕ) → HasFrames setup → IsNeeded setup (all_animations scene) needed
    → IsSeenBefore scene setup needed start
