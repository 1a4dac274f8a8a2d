use Rattle.std.proofs.Common.{arith}
use Rattle.window_area.proofs.ColumnLemmas.{columns-all, columns-bounded, columns-more, columns-none}
use Rattle.window_area.proofs.columns.open_columns.Goals as goal

pub loop-row-init : goal.loop-row-init
loop-row-init c =
    columns-none c.args.across c.args.ys.now c.args.flags.now c.args.size c.clear.new.columns c.requires.edges
    (omega (arith, c.requires.enough)) c.clear.ensures

pub add_where_flagged-requires-clause-small : goal.add_where_flagged-requires-clause-small
add_where_flagged-requires-clause-small c =
    λ band within.
    columns-bounded c.args.across c.args.ys.now c.args.flags.now c.args.size c.loop-row.row c.loop-row.columns c.requires.edges
    (omega arith) c.loop-row.invariant band (omega (arith, c.row_of.ensures.whole))

pub loop-row-preserved : goal.loop-row-preserved
loop-row-preserved c =
    columns-more c.args.across c.args.ys.now c.args.flags.now c.args.size c.loop-row.row c.overlap-amount.result c.row_of.result.now
    c.loop-row.columns c.add_where_flagged.new.columns c.requires.edges (omega arith) c.overlap-amount.ensures.value
    c.row_of.ensures c.add_where_flagged.ensures c.loop-row.invariant

pub returns : goal.returns
returns c =
    columns-all c.args.across c.args.ys.now c.args.flags.now c.args.size c.loop-row.row c.loop-row.columns (omega arith)
    c.loop-row.invariant
