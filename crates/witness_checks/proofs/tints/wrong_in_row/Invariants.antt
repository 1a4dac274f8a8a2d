-- The columns passed have the tint.
use Rattle.std.proofs.Common.{ℕ, ◌≡◌, ◌<◌, ◌≤◌}
use Rattle.page_model.specs.TintOf.{tint_of}
use Rattle.frame_state.specs.States.{states_as}
use Rattle.witness_checks.proofs.tints.wrong_in_row.Given as goal

abbrev pub invariant-loop-x : goal.invariant-loop-x
invariant-loop-x l = (column : ℕ) → l.part.x ≤ column → column < l.x → tint_of l.scene (states_as l.states) column l.y ≡ l.tint
