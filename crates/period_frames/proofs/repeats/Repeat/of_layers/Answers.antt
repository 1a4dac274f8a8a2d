-- The animations of one layer more.
use Rattle.std.proofs.Common.{take, subst, sym}
use Rattle.page_model.specs.Horizon.{animations_of}
use Rattle.period_frames.specs.Repeats.{IsRepeat}
use Rattle.period_frames.proofs.NeededLemmas.{layer-more}
use Rattle.period_frames.proofs.repeats.Repeat.of_layers.Goals as goal

pub loop-layer-init : goal.loop-layer-init
loop-layer-init c = c.of_none-all.ensures c.args.setup.now

pub loop-layer-preserved : goal.loop-layer-preserved
loop-layer-preserved c =
    let setup = c.args.setup.now in
    let layers = c.args.layers.now in
    let i = c.loop-layer.layer-index in
    let layer = c.layer-item.result in
    let own = subst (λ xs. IsRepeat setup xs c.of_animations.result) c.as_slice.ensures c.of_animations.ensures in
    subst (λ xs. IsRepeat setup xs c.joined-all.result) (sym (layer-more layers i layer c.loop-layer-test.true c.layer-item.is))
    (c.joined-all.ensures setup (animations_of (take i layers)) layer.anims c.loop-layer.invariant own)
