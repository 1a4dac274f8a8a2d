use Rattle.std.proofs.Common.{arith}
use Rattle.window_area.proofs.WidthLemmas.{holds_no_more, total-all, total-more, total-none}
use Rattle.window_area.proofs.total.total_area.Goals as goal

pub loop-row-init : goal.loop-row-init
loop-row-init c = total-none c.args.xs.now c.args.ys.now c.args.flags.now c.requires.rows

pub loop-row-preserved : goal.loop-row-preserved
loop-row-preserved c =
    rw c.from-height.ensures
    (total-more c.args.xs.now c.args.ys.now c.args.flags.now c.row_of.result.now c.loop-row.row c.loop-row.area c.flagged_width.result
    c.requires.columns c.requires.rows (omega arith) c.row_of.ensures c.flagged_width.ensures.width c.flagged_width.ensures.small
    c.loop-row.invariant)

pub returns-clause-total : goal.returns-clause-total
returns-clause-total c =
    total-all c.args.xs.now c.args.ys.now c.args.flags.now c.loop-row.row c.loop-row.area (omega arith) c.loop-row.invariant

pub returns-clause-law : goal.returns-clause-law
returns-clause-law c = holds_no_more c.args.xs.now c.args.ys.now c.args.flags.now
