-- The boxes are ready, and those from which the painting begins give what all boxes give.
use Rattle.std.proofs.Common.{◌∙◌, ap}
use Rattle.std.specs.Prelude.{fold}
use Rattle.page_model.specs.TintOf.{tint_box, tint_ground}
use Rattle.frame_state.specs.States.{states_as}
use Rattle.paint_blend.proofs.HideLemmas.{seen-from_box, seen-from_ground}
use Rattle.paint_blend.proofs.ReadyLemmas.{order-ready, part-ready, state-ready}
use Rattle.paint_blend.proofs.SeenLemmas.{begins-box, begins-ground, begins-within}
use Rattle.paint_blend.proofs.painting.painted.Goals as goal

pub seen_from-seen-requires : goal.seen_from-seen-requires
seen_from-seen-requires c =
    order-ready c.args.scene.now c.args.states.now c.as_slice-boxes.result.now c.as_slice-boxes.ensures c.requires.valid c.requires.states c.requires.ready

pub bounds-states-boxes : goal.bounds-states-boxes
bounds-states-boxes c =
    (order-ready c.args.scene.now c.args.states.now c.as_slice-boxes.result.now c.as_slice-boxes.ensures c.requires.valid c.requires.states c.requires.ready
    c.in-Some.place 0
    (begins-within c.args.states.now c.as_slice-boxes.result.now c.args.x c.args.y c.seen_from-seen.result c.in-Some.place c.seen_from-seen.ensures c.in-Some.is)).there

pub hiding_tint-tint-requires : goal.hiding_tint-tint-requires
hiding_tint-tint-requires c =
    state-ready c.args.states.now _ _
    (order-ready c.args.scene.now c.args.states.now c.as_slice-boxes.result.now c.as_slice-boxes.ensures c.requires.valid c.requires.states c.requires.ready
    c.in-Some.place 0
    (begins-within c.args.states.now c.as_slice-boxes.result.now c.args.x c.args.y c.seen_from-seen.result c.in-Some.place c.seen_from-seen.ensures c.in-Some.is))

pub with_boxes-requires : goal.with_boxes-requires
with_boxes-requires c =
    part-ready c.args.states.now c.as_slice-boxes.result.now _ c.seen_from-seen.result.first c.seen_from-seen.result.end c.boxes_between-above.ensures
    (order-ready c.args.scene.now c.args.states.now c.as_slice-boxes.result.now c.as_slice-boxes.ensures c.requires.valid c.requires.states c.requires.ready)

pub with_boxes-requires-in-None : goal.with_boxes-requires-in-None
with_boxes-requires-in-None c =
    part-ready c.args.states.now c.as_slice-boxes.result.now _ c.seen_from-seen.result.first c.seen_from-seen.result.end c.boxes_between-above.ensures
    (order-ready c.args.scene.now c.args.states.now c.as_slice-boxes.result.now c.as_slice-boxes.ensures c.requires.valid c.requires.states c.requires.ready)

pub returns-in-Some : goal.returns-in-Some
returns-in-Some c =
    seen-from_box c.args.states.now c.args.x c.args.y c.as_slice-boxes.result.now _ c.seen_from-seen.result c.in-Some.place _
    (tint_ground c.args.scene.now (states_as c.args.states.now)) c.hiding_tint-tint.result c.with_boxes.result
    (order-ready c.args.scene.now c.args.states.now c.as_slice-boxes.result.now c.as_slice-boxes.ensures c.requires.valid c.requires.states c.requires.ready)
    c.seen_from-seen.ensures
    (begins-box c.args.states.now c.as_slice-boxes.result.now c.args.x c.args.y c.seen_from-seen.result c.in-Some.place c.seen_from-seen.ensures c.in-Some.is)
    c.hiding_tint-tint.ensures.hides c.hiding_tint-tint.ensures.own c.boxes_between-above.ensures c.with_boxes.ensures
    ∙ ap (fold (tint_box (states_as c.args.states.now) c.args.x c.args.y) (tint_ground c.args.scene.now (states_as c.args.states.now))) c.as_slice-boxes.ensures

pub returns-in-None : goal.returns-in-None
returns-in-None c =
    seen-from_ground c.args.states.now c.args.x c.args.y c.as_slice-boxes.result.now _ c.seen_from-seen.result
    (tint_ground c.args.scene.now (states_as c.args.states.now)) c.with_boxes-in-None.result c.seen_from-seen.ensures
    (begins-ground c.args.states.now c.as_slice-boxes.result.now c.args.x c.args.y c.seen_from-seen.result c.seen_from-seen.ensures c.in-None.is)
    c.boxes_between-above.ensures (rw c.ground.ensures at c.with_boxes-in-None.ensures)
    ∙ ap (fold (tint_box (states_as c.args.states.now) c.args.x c.args.y) (tint_ground c.args.scene.now (states_as c.args.states.now))) c.as_slice-boxes.ensures
