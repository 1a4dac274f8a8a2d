-- The rows passed have the tint.
use Rattle.std.proofs.Common.{ℕ, ◌≡◌, ◌<◌}
use Rattle.page_model.specs.TintOf.{tint_of}
use Rattle.page_model.specs.WitnessConditions.{IsOfPart}
use Rattle.frame_state.specs.States.{states_as}
use Rattle.witness_checks.proofs.tints.wrong_in_rows.Given as goal

abbrev pub invariant-loop-y : goal.invariant-loop-y
invariant-loop-y l = (column row : ℕ) → IsOfPart l.part column row → row < l.y → tint_of l.scene (states_as l.states) column row ≡ l.tint
