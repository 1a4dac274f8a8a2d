use Rattle.std.proofs.Common.{◌+◌, arith}
use Rattle.window_area.proofs.AreaLemmas.{columns-weights}
use Rattle.window_area.proofs.BoundLemmas.{bound-next}
use Rattle.window_area.proofs.RowScanLemmas.{row_scan-begins, row_scan-ends, row_scan-next}
use Rattle.window_area.proofs.SlideLemmas.{stride-place, window-place}
use Rattle.window_area.proofs.best.best_row.Goals as goal

pub most_in_strip-most-requires-clause-weights : goal.most_in_strip-most-requires-clause-weights
most_in_strip-most-requires-clause-weights c =
    columns-weights c.args.xs.now c.args.ys.now c.args.flags.now 256 0 c.open_columns.new.columns c.requires.rows c.open_columns.ensures

pub loop-stride-init : goal.loop-stride-init
loop-stride-init c =
    row_scan-begins c.args.xs.now c.args.ys.now c.args.flags.now c.args.limit c.open-window.result c.open_columns.new.columns
    c.most_in_strip-most.result c.or_later.result c.requires.columns c.open-window.ensures.window c.open-window.ensures.size
    c.open-window.ensures.begins c.open_columns.ensures c.most_in_strip-most.ensures.most c.most_in_strip-most.ensures.early
    (rw c.limit_only.ensures at c.or_later.ensures)

pub bound_after-requires-clause-stride : goal.bound_after-requires-clause-stride
bound_after-requires-clause-stride c =
    let before = stride-place c.args.ys.now c.loop-stride.window c.in-Some.stride c.requires.rows
    c.loop-stride.invariant.window_is c.in-Some.ensures in
    omega (arith, before, c.requires.rows.limit)

pub looked_at-lead-requires-clause-weights : goal.looked_at-lead-requires-clause-weights
looked_at-lead-requires-clause-weights c =
    columns-weights c.args.xs.now c.args.ys.now c.args.flags.now c.loop-stride.window.size
    (c.loop-stride.window.place + c.in-Some.stride) c.slide_columns.new.columns c.requires.rows c.slide_columns.ensures

pub loop-stride-smaller : goal.loop-stride-smaller
loop-stride-smaller c =
    let before = stride-place c.args.ys.now c.loop-stride.window c.in-Some.stride c.requires.rows
    c.loop-stride.invariant.window_is c.in-Some.ensures in
    let can = c.in-Some.ensures in
    omega (arith, before, can.some, c.slid-window.ensures.place)

pub loop-stride-preserved : goal.loop-stride-preserved
loop-stride-preserved c =
    row_scan-next c.args.xs.now c.args.ys.now c.args.flags.now c.args.limit c.loop-stride.window c.loop-stride.work c.loop-stride.lead
    c.in-Some.stride c.bound_after.result c.slid-window.result c.slide_columns.new.columns c.looked_at-lead.result c.requires.columns
    c.requires.rows c.loop-stride.invariant c.in-Some.ensures c.slid-window.ensures.window c.slid-window.ensures.place
    c.slid-window.ensures.size c.slide_columns.ensures
    (rw c.bound_after.ensures
    (bound-next c.args.xs.now c.args.ys.now c.args.flags.now c.row_of.result.now c.loop-stride.window c.in-Some.stride c.flagged_width-width.result
    c.loop-stride.lead.bound c.requires.columns c.requires.rows c.loop-stride.invariant.size_is c.loop-stride.invariant.window_is
    c.in-Some.ensures c.row_of.ensures c.flagged_width-width.ensures.width c.loop-stride.invariant.lead_is.bounded))
    (omega (arith, c.bound_after.ensures)) c.looked_at-lead.ensures

pub returns-clause-best : goal.returns-clause-best
returns-clause-best c =
    row_scan-ends c.args.xs.now c.args.ys.now c.args.flags.now c.args.limit c.loop-stride.window c.loop-stride.work c.loop-stride.lead
    c.loop-stride.invariant c.in_default.ensures

pub returns-clause-row : goal.returns-clause-row
returns-clause-row c =
    let before = window-place c.args.ys.now c.loop-stride.window c.requires.rows c.loop-stride.invariant.window_is in
    omega (arith, before, c.loop-stride.invariant.lead_is.best_is.fits, c.requires.rows.limit)

pub returns-clause-column : goal.returns-clause-column
returns-clause-column c = c.loop-stride.invariant.lead_is.early
