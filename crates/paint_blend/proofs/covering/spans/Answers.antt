-- The tests are those of the definition.
use Rattle.std.proofs.Common.{arith}
use Rattle.std.proofs.lemmas.Int.{ints}
use Rattle.frame_state.specs.States.{loose_as}
use Rattle.paint_blend.proofs.SpanLemmas.{spans-past, spans-inside, spans-late, spans-early}
use Rattle.paint_blend.proofs.covering.spans.Goals as goal

pub returns-then-from-size : goal.returns-then-from-size
returns-then-from-size c =
    let from = loose_as c.args.from in
    let size = loose_as c.args.size in
    spans-past from size c.args.at (omega (arith, ints)) (omega (arith, ints))

pub returns-then-at-from-2 : goal.returns-then-at-from-2
returns-then-at-from-2 c =
    let from = loose_as c.args.from in
    let size = loose_as c.args.size in
    spans-inside from size c.args.at (omega (arith, ints)) (omega (arith, ints)) (omega (arith, ints)) (omega (arith, ints))

pub returns-else-at-from-2 : goal.returns-else-at-from-2
returns-else-at-from-2 c =
    let from = loose_as c.args.from in
    let size = loose_as c.args.size in
    spans-late from size c.args.at (omega (arith, ints)) (omega (arith, ints)) (omega (arith, ints)) (omega (arith, ints))

pub returns-else-from-at : goal.returns-else-from-at
returns-else-from-at c =
    let from = loose_as c.args.from in
    let size = loose_as c.args.size in
    spans-early from size c.args.at (omega (arith, ints)) (omega (arith, ints)) (omega (arith, ints))
