-- The tint of the next frame.
use Rattle.cell_flags.proofs.TrackLemmas.{tracking-more}
use Rattle.cell_flags.proofs.tracked.opened.Goals as goal

pub loop-frame-preserved : goal.loop-frame-preserved
loop-frame-preserved c =
    tracking-more c.args.tints.now c.args.cells c.args.cell c.args.rate c.loop-frame.frame c.loop-frame.tracker c.push.new.self c.tint_at.result
    c.loop-frame.invariant c.push.ensures c.tint_at.ensures
