-- One animation more.
use Rattle.std.proofs.Common.{take, subst, sym}
use Rattle.std.proofs.lemmas.Grind.{take_at_read}
use Rattle.period_frames.specs.Repeats.{IsRepeat}
use Rattle.period_frames.proofs.repeats.Repeat.of_animations.Goals as goal

pub loop-anim-init : goal.loop-anim-init
loop-anim-init c = c.of_none-all.ensures c.args.setup.now

pub loop-anim-preserved : goal.loop-anim-preserved
loop-anim-preserved c =
    let anims = c.args.anims.now in
    let i = c.loop-anim.anim-index in
    let more = (take_at_read anims i _ c.loop-anim-test.true).1 in
    subst (λ xs. IsRepeat c.args.setup.now xs c.joined-all.result) (sym more)
    (c.joined-all.ensures c.args.setup.now (take i anims) _ c.loop-anim.invariant c.of_animation.ensures)
