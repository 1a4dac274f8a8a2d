-- Why finitely many windows are enough: behind the settled frame of all animations a page's layers, and so its windows, repeat. It
-- is said of the exact states, and of those of each kind of enclosure.
use Rattle.std.specs.Prelude.{ℕ, ℤ, Bool, ◌≡◌, ◌↔◌, ◌+◌, ◌<◌, ◌≤◌, List, Some, slice_get}
use Rattle.std.specs.List.{items_where_true}
use Rattle.page_model.specs.declared.setup.Setup.{Setup}
use Rattle.page_model.specs.declared.scene.Layer.{Layer}
use Rattle.page_model.specs.declared.scene.Scene.{Scene}
use Rattle.page_model.specs.Colour.{Run, IsBadWindow, IsRunIn, IsSafeScene, painting_of}
use Rattle.page_model.specs.Enclosure.{IsLooseStateAt, Kind, LooseState}
use Rattle.page_model.specs.Flash.{IsBad}
use Rattle.page_model.specs.Horizon.{IsHorizon, IsNeeded, all_animations, animations_of}
use Rattle.page_model.specs.LayerAt.{State, IsStateAt}
use Rattle.page_model.specs.Window.{IsPossiblyBad, IsSurelyBad}
use Rattle.page_model.specs.Time.{HasFrames}

-- from a frame on, a layer's state by each kind is the same so many frames later
abbrev pub LayerRepeats : Scene → Setup → Layer → ℕ → ℕ → Type 0
LayerRepeats scene setup layer settled period =
    (kind : Kind) (frame : ℕ) (state : LooseState) → settled ≤ frame
    → (IsLooseStateAt kind scene setup (frame + period) layer state ↔ IsLooseStateAt kind scene setup frame layer state)

-- a layer's state one period later is its state now: the exact one, and that of each kind; by its own animations alone; and by those of
-- some layers, marked each, that it is one of
pub record StatesRepeat : Type 0 where
  pub exactly : (scene : Scene) (setup : Setup) (settled period frame number : ℕ) (layer : Layer) (state : State) → HasFrames setup
      → IsHorizon setup (all_animations scene) settled period → settled ≤ frame → slice_get scene.layers number ≡ Some layer
      → (IsStateAt scene setup (frame + period) layer state ↔ IsStateAt scene setup frame layer state)
  pub loosely : (kind : Kind) (scene : Scene) (setup : Setup) (settled period frame number : ℕ) (layer : Layer) (state : LooseState)
      → HasFrames setup → IsHorizon setup (all_animations scene) settled period → settled ≤ frame
      → slice_get scene.layers number ≡ Some layer
      → (IsLooseStateAt kind scene setup (frame + period) layer state ↔ IsLooseStateAt kind scene setup frame layer state)
  pub alone : (scene : Scene) (setup : Setup) (settled period : ℕ) (layer : Layer) → HasFrames setup
      → IsHorizon setup layer.anims settled period → LayerRepeats scene setup layer settled period
  pub among : (scene : Scene) (setup : Setup) (settled period number : ℕ) (marks : List Bool) (layer : Layer) → HasFrames setup
      → IsHorizon setup (animations_of (items_where_true marks scene.layers)) settled period
      → slice_get marks number ≡ Some Bool.true → slice_get scene.layers number ≡ Some layer
      → LayerRepeats scene setup layer settled period

-- A frame is an earlier one, of the first ones, so many frames later: from that one on each layer that repeats has, so much later, the
-- state that it has now.
pub record HasEarlier (scene : Scene) (setup : Setup) (settled period frame : ℕ) : Type 0 where
  pub earlier : ℕ
  pub before : earlier < settled + period
  pub later : ℕ
  pub sum : earlier + later ≡ frame
  pub is_as : (layer : Layer) (kind : Kind) (on : ℕ) (state : LooseState) → LayerRepeats scene setup layer settled period → earlier ≤ on
      → IsLooseStateAt kind scene setup (on + later) layer state → IsLooseStateAt kind scene setup on layer state

-- so it is with each frame
abbrev pub FramesHaveEarlier : Type 0
FramesHaveEarlier =
    (scene : Scene) (setup : Setup) (settled period frame : ℕ) → 1 ≤ period → HasEarlier scene setup settled period frame

-- so a window is bad, and by each kind surely or possibly bad, where the one that starts a period later is
pub record IsAsBad (scene : Scene) (setup : Setup) (start other : ℕ) : Type 0 where
  pub bad : (x y : ℤ) → (IsBadWindow scene setup start x y ↔ IsBadWindow scene setup other x y)
  pub surely : (kind : Kind) (x y : ℤ) → (IsSurelyBad kind scene setup start x y ↔ IsSurelyBad kind scene setup other x y)
  pub possibly : (kind : Kind) (x y : ℤ) → (IsPossiblyBad kind scene setup start x y ↔ IsPossiblyBad kind scene setup other x y)

abbrev pub BadWindowsRepeat : Type 0
BadWindowsRepeat =
    (scene : Scene) (setup : Setup) (settled period start : ℕ) → HasFrames setup
    → IsHorizon setup (all_animations scene) settled period → settled ≤ start → IsAsBad scene setup (start + period) start

-- no window that starts before a frame is bad at any position, and no window at all is
abbrev pub NoneIn : (ℕ → ℤ → ℤ → Type 0) → ℕ → Type 0
NoneIn Bad end = (start : ℕ) (x y : ℤ) → start < end → Bad start x y → ⊥

abbrev pub NoneEver : (ℕ → ℤ → ℤ → Type 0) → Type 0
NoneEver Bad = (start : ℕ) (x y : ℤ) → Bad start x y → ⊥

-- with the exact states of its layers, whatever they are, no window that starts before a frame is bad at any position
abbrev pub NoneBadBefore : Scene → Setup → ℕ → Type 0
NoneBadBefore scene setup end =
    (start : ℕ) (x y : ℤ) (run : Run) → start < end → IsRunIn scene setup start run
    → IsBad (painting_of scene run) setup start x y → ⊥

-- Windows that start before a frame are enough: a page is safe for ever where none of them is bad, and no window at all is surely,
-- or possibly, bad by a kind where none of them is.
pub record AreEnough (scene : Scene) (setup : Setup) (end : ℕ) : Type 0 where
  pub safe : NoneBadBefore scene setup end → IsSafeScene scene setup
  pub surely : (kind : Kind) → NoneIn (IsSurelyBad kind scene setup) end → NoneEver (IsSurelyBad kind scene setup)
  pub possibly : (kind : Kind) → NoneIn (IsPossiblyBad kind scene setup) end → NoneEver (IsPossiblyBad kind scene setup)

-- those before the needed frames are
abbrev pub FewWindowsSuffice : Type 0
FewWindowsSuffice =
    (scene : Scene) (setup : Setup) (needed : ℕ) → HasFrames setup → IsNeeded setup (all_animations scene) needed
    → AreEnough scene setup needed
