-- The tint of the next cell is written over the one that it had.
use Rattle.std.proofs.Common.{ap, rules, sym}
use Rattle.region_split.specs.declared.types.Rect.{Rect}
use Rattle.cell_tints.proofs.FollowLemmas.{till-all, till-more, till-next}
use Rattle.cell_tints.proofs.following.paint_changed.Goals as goal

pub tint_after-requires-clause-was : goal.tint_after-requires-clause-was
tint_after-requires-clause-was c =
    till-next c.args.scene.now c.args.cuts.now c.args.chosen.now c.args.before.now c.args.states.now c.loop-i.i c.cell-cell.result.x
    c.cell-cell.result.y c.loop-i.tints _ c.loop-i.invariant (search rules)
    (sym (ap (λ (r : Rect). r.x) c.cell-cell.ensures)) (sym (ap (λ (r : Rect). r.y) c.cell-cell.ensures))

pub loop-i-preserved : goal.loop-i-preserved
loop-i-preserved c =
    till-more c.args.scene.now c.args.cuts.now c.args.chosen.now c.args.before.now c.args.states.now c.loop-i.i c.cell-cell.result.x
    c.cell-cell.result.y c.loop-i.tints c.tint_after.result c.loop-i.invariant (search rules)
    (sym (ap (λ (r : Rect). r.x) c.cell-cell.ensures)) (sym (ap (λ (r : Rect). r.y) c.cell-cell.ensures)) c.tint_after.ensures

pub returns : goal.returns
returns c =
    till-all c.args.scene.now c.args.cuts.now c.args.chosen.now c.args.before.now c.args.states.now c.loop-i.i c.loop-i.tints
    (search rules) c.loop-i.invariant
