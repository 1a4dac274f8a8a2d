-- What is kept of a frame: the states of all layers.
use Rattle.std.specs.Prelude.{ℕ, ◌≡◌, List, Some, length, take}
use Rattle.page_model.specs.declared.scene.Scene.{Scene}
use Rattle.page_model.specs.declared.setup.Setup.{Setup}
use Rattle.frame_state.specs.declared.types.LayerState.{LayerState}
use Rattle.frame_state.specs.States.{AreOwn, states_as}
use Rattle.paint_blend.specs.Paint.{AreReady}
use Rattle.witness_checks.specs.declared.kept.KeptStates.{KeptStates}

-- states are those of the own kind in a frame, and ready to be painted
pub record AreStatesIn (scene : Scene) (setup : Setup) (frame : ℕ) (states : List LayerState) : Type 0 where
  pub own_states : AreOwn scene setup frame (states_as states)
  pub ready : AreReady scene (states_as states)

-- the states that are kept are those of the frame that is named, if one is
abbrev pub IsKept : Scene → Setup → KeptStates → Type 0
IsKept scene setup kept =
    (frame : ℕ) → kept.frame ≡ Some frame → AreStatesIn scene setup frame (take (length scene.layers) kept.states)
