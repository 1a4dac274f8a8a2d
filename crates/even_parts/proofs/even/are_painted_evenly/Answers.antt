-- One box more.
use Rattle.std.proofs.Common.{refl}
use Rattle.even_parts.proofs.EvenLemmas.{even-more}
use Rattle.even_parts.proofs.even.are_painted_evenly.Goals as goal

pub loop-number-preserved : goal.loop-number-preserved
loop-number-preserved c =
    even-more c.args.states.now c.loop-number.number c.args.part.now _ c.loop-number-test.true c.loop-number.invariant
    (c.if-not-is_painted_evenly.ensures refl)
