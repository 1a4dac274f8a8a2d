-- Parts that have halved once more; there are fewer than 2^60.
use Rattle.std.proofs.Common.{arith, ◌≤◌, ◌^◌}
use Rattle.fix_span.proofs.ScaleLemmas.{few_parts, halves}
use Rattle.fix_span.proofs.scale.share_of.Goals as goal

pub halved-share-requires-clause-room : goal.halved-share-requires-clause-room
halved-share-requires-clause-room c =
    let few : 2 ^ c.halving.counter ≤ 2 ^ 60 = few_parts c.halving.counter (omega arith) in
    omega (arith, few, c.halving.invariant.few)

pub halving-preserved : goal.halving-preserved
halving-preserved c =
    halves c.args.num c.args.den c.halving.counter c.halving.share.parts c.halving.share.rest c.halved-share.result.parts c.halved-share.result.rest
    c.halving.invariant c.halved-share.ensures.whole c.halved-share.ensures.below c.halved-share.ensures.few
