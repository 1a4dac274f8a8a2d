-- One part more in order, and all of them.
use Rattle.std.proofs.Common.{◌-◌, arith, refl}
use Rattle.std.proofs.lemmas.Option.{slice_get-get_or}
use Rattle.witness_checks.proofs.OrderLemmas.{order-apart, order-more}
use Rattle.witness_checks.proofs.overlap.stand_in_order.Goals as goal

pub loop-next-preserved : goal.loop-next-preserved
loop-next-preserved c =
    order-more c.args.parts.now c.loop-next.next _ _
    (slice_get-get_or c.args.parts.now (c.loop-next.next - 1) _ (omega (arith, c.loop-next-test.true)))
    (slice_get-get_or c.args.parts.now c.loop-next.next _ c.loop-next-test.true) (omega arith) c.loop-next.invariant
    (c.if-not-comes_before.ensures.0 refl)

pub returns : goal.returns
returns c so = order-apart c.args.parts.now c.loop-next.next (omega (arith, c.loop-next-test.false)) c.loop-next.invariant
