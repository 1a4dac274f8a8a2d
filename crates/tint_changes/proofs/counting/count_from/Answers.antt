use Rattle.std.proofs.Common.{◌≡◌, length, arith}
use Rattle.tint_changes.specs.Counting.{Makes, MakesAt}
use Rattle.tint_changes.proofs.ChainLemmas.{change-within}
use Rattle.tint_changes.proofs.CountLemmas.{count-all}
use Rattle.tint_changes.proofs.counting.count_from.Goals as goal

pub returns : goal.returns
returns c =
    let end : c.loop-later.later ≡ length c.args.tints.now = omega arith in
    count-all (MakesAt c.args.opposing.first c.args.tints.now) (MakesAt c.args.opposing.second c.args.tints.now) c.args.place
    (length c.args.tints.now) c.loop-later.count
    (λ k change. (change-within (Makes c.args.opposing.first) c.args.tints.now c.args.place k change).1)
    (rw end at c.loop-later.invariant)
