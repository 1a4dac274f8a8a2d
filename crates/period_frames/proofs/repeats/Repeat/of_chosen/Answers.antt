-- The animations of one chosen layer more.
use Rattle.std.proofs.Common.{take, subst, sym}
use Rattle.std.specs.List.{items_where_true}
use Rattle.page_model.specs.Horizon.{animations_of}
use Rattle.period_frames.specs.Repeats.{IsRepeat}
use Rattle.period_frames.proofs.ChosenLemmas.{chosen-before, left-before}
use Rattle.period_frames.proofs.repeats.Repeat.of_chosen.Goals as goal
use Rattle.period_frames.proofs.repeats.Repeat.of_chosen.Goals.{then-chosen-i, else-chosen-i}

pub loop-i-init : goal.loop-i-init
loop-i-init c = c.of_none-all.ensures c.args.setup.now

pub loop-i-preserved : goal.loop-i-preserved
loop-i-preserved c =
    let setup = c.args.setup.now in
    let chosen = c.args.chosen.now in
    let layers = c.args.layers.now in
    let i = c.loop-i.i in
    let known = animations_of (items_where_true (take i chosen) (take i layers)) in
    elim c.if-chosen-i.branch [
      | then-chosen-i w ↦
          let layer = w.index-layers-i.result in
          let own = subst (λ xs. IsRepeat setup xs w.of_animations.result) w.as_slice.ensures w.of_animations.ensures in
          rw w.all-is
          (subst (λ xs. IsRepeat setup xs w.joined-all.result)
          (sym (chosen-before chosen layers i layer c.requires.one_each c.loop-i-test.true w.if-chosen-i.true (sym w.index-layers-i.is)))
          (w.joined-all.ensures setup known layer.anims c.loop-i.invariant (rw (sym w.index-layers-i.is) at own)))
      | else-chosen-i w ↦
          rw w.all-is
          (subst (λ xs. IsRepeat setup xs c.loop-i.all)
          (sym (left-before chosen layers i c.requires.one_each c.loop-i-test.true w.if-chosen-i.false)) c.loop-i.invariant)
    ]
