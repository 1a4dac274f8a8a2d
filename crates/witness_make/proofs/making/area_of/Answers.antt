-- So many pixels so far.
use Rattle.std.proofs.Common.{arith}
use Rattle.witness_make.proofs.CellLemmas.{sum-fits}
use Rattle.witness_make.proofs.making.area_of.Goals as goal

pub overflow_add-area : goal.overflow_add-area
overflow_add-area c =
    let fits = sum-fits c.args.parts.now c.loop-part.part-index c.loop-part.area c.from.result c.from-in-loop-part.result _ c.loop-part.invariant
    c.loop-part-test.true c.from.ensures c.from-in-loop-part.ensures c.requires in
    omega (arith, fits)
