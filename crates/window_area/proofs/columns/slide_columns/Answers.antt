use Rattle.std.proofs.Common.{arith}
use Rattle.window_area.proofs.ColumnLemmas.{column-bounded, columns-room, columns-slid}
use Rattle.window_area.proofs.SlideLemmas.{stride-place}
use Rattle.window_area.proofs.columns.slide_columns.Goals as goal

pub add_where_flagged-requires-clause-small : goal.add_where_flagged-requires-clause-small
add_where_flagged-requires-clause-small c =
    λ band within.
    column-bounded c.args.across c.args.ys.now c.args.flags.now c.args.window.now.size c.args.window.now.place c.args.columns.now
    c.requires.edges c.requires.columns band (omega (arith, c.row_of.ensures.whole))

pub add_where_flagged-requires-clause-amount : goal.add_where_flagged-requires-clause-amount
add_where_flagged-requires-clause-amount c =
    let fits = stride-place c.args.ys.now c.args.window.now c.args.stride c.requires.edges c.requires.window c.requires.stride in
    omega (arith, fits, c.requires.edges.limit)

pub take_where_flagged-requires-clause-room : goal.take_where_flagged-requires-clause-room
take_where_flagged-requires-clause-room c =
    columns-room c.args.across c.args.ys.now c.args.flags.now c.args.window.now c.args.stride c.row_of-2.result.now c.row_of.result.now
    c.args.columns.now c.add_where_flagged.new.columns c.requires.edges c.requires.window c.requires.stride c.requires.columns
    c.row_of.ensures c.add_where_flagged.ensures c.row_of-2.ensures

pub returns : goal.returns
returns c =
    columns-slid c.args.across c.args.ys.now c.args.flags.now c.args.window.now c.args.stride c.row_of-2.result.now c.row_of.result.now
    c.args.columns.now c.add_where_flagged.new.columns c.take_where_flagged.new.columns c.requires.edges c.requires.window
    c.requires.stride c.requires.columns c.row_of.ensures c.add_where_flagged.ensures c.row_of-2.ensures c.take_where_flagged.ensures
