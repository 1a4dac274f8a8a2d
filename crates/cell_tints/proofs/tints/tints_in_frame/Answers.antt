-- The tint that is written is that of the next cell.
use Rattle.std.proofs.Common.{rules, ap, sym}
use Rattle.std.proofs.lemmas.Option.{slice_get_within}
use Rattle.frame_state.specs.States.{states_as}
use Rattle.region_split.specs.declared.types.Rect.{Rect}
use Rattle.cell_tints.proofs.FollowLemmas.{states-in}
use Rattle.cell_tints.proofs.TintLemmas.{own-tint, tints-written}
use Rattle.cell_tints.proofs.tints.tints_in_frame.Goals as goal

pub tint_of-requires-clause-ready : goal.tint_of-requires-clause-ready
tint_of-requires-clause-ready c number layer is coloured =
    c.states_at.ensures.ranges number (slice_get_within c.args.scene.now.layers number layer is)

pub loop-i-preserved : goal.loop-i-preserved
loop-i-preserved c =
    tints-written c.args.scene.now c.args.setup.now c.args.cuts.now c.args.frame c.args.chosen.now c.loop-i.i c.cell-cell.result.x c.cell-cell.result.y
    c.loop-i.tints c.tint_of.result c.loop-i.invariant (search rules)
    (sym (ap (λ (r : Rect). r.x) c.cell-cell.ensures)) (sym (ap (λ (r : Rect). r.y) c.cell-cell.ensures))
    (own-tint c.args.scene.now c.args.setup.now c.args.frame c.cell-cell.result.x c.cell-cell.result.y c.tint_of.result
    (states_as c.states_at.new.out, rw c.from.ensures at c.states_at.ensures.own, c.tint_of.ensures.value)
    c.tint_of.ensures.ordered)

pub returns-clause-states : goal.returns-clause-states
returns-clause-states c =
    states-in c.args.scene.now c.args.setup.now c.from.result c.args.frame c.states_at.new.out c.from.ensures (search rules) c.states_at.ensures.own
    c.states_at.ensures.ranges
