-- The tint after the boxes passed.
use Rattle.std.proofs.Common.{◌≡◌, take}
use Rattle.std.specs.Prelude.{fold}
use Rattle.page_model.specs.TintOf.{tint_box}
use Rattle.frame_state.specs.States.{states_as}
use Rattle.paint_blend.proofs.painting.with_boxes.Given as goal

abbrev pub invariant-loop-number : goal.invariant-loop-number
invariant-loop-number l = l.tint ≡ fold (tint_box (states_as l.states) l.x l.y) l.fn.under (take l.number-index l.boxes)
