use Rattle.std.proofs.Common.{arith}
use Rattle.window_area.proofs.WidthLemmas.{width-all, width-more}
use Rattle.window_area.proofs.total.flagged_width.Goals as goal

pub loop-band-preserved : goal.loop-band-preserved
loop-band-preserved c =
    rw (c.only_if-width.ensures, c.from.ensures)
    (width-more c.args.xs.now c.args.row.now c.loop-band.band c.loop-band.width c.requires.edges (omega arith) c.loop-band.invariant)

pub returns-clause-width : goal.returns-clause-width
returns-clause-width c =
    width-all c.args.xs.now c.args.row.now c.loop-band.band c.loop-band.width (omega arith) c.loop-band.invariant
