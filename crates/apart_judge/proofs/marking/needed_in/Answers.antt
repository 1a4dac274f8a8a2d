-- The sum of a horizon's two numbers, which is small.
use Rattle.std.proofs.Common.{arith}
use Rattle.apart_judge.proofs.MarkLemmas.{needed-is}
use Rattle.apart_judge.proofs.marking.needed_in.Goals as goal

pub overflow_add-result : goal.overflow_add-result
overflow_add-result c =
    let same = needed-is c.args.parted.now c.args.cell c.horizon-horizon.result c.horizon-horizon.ensures in
    omega (arith, same, c.requires.few.each c.args.cell c.requires.known, c.requires.few.few)

pub returns : goal.returns
returns c = needed-is c.args.parted.now c.args.cell c.horizon-horizon.result c.horizon-horizon.ensures
