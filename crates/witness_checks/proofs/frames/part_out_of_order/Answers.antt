-- The frames of one more part rise, or of all; and the first part of which they don't.
use Rattle.std.proofs.Common.{refl}
use Rattle.std.proofs.lemmas.Bool.{false≢true}
use Rattle.witness_checks.specs.Faults.{Rises}
use Rattle.witness_checks.proofs.FirstLemmas.{before-all, before-more, first-here, no_part}
use Rattle.witness_checks.proofs.frames.part_out_of_order.Goals as goal

pub returns : goal.returns
returns c =
    before-all Rises c.args.witness.now.parts c.as_slice-part-items.result.now c.loop-number.number c.as_slice-part-items.ensures
    c.loop-number-test.false c.loop-number.invariant

pub loop-number-preserved : goal.loop-number-preserved
loop-number-preserved c =
    before-more Rises c.args.witness.now.parts c.as_slice-part-items.result.now c.loop-number.number no_part c.as_slice-part-items.ensures
    c.loop-number.invariant (c.if-not-rises.ensures.0 refl)

pub returns-then-not-rises : goal.returns-then-not-rises
returns-then-not-rises c =
    first-here Rises c.args.witness.now.parts c.as_slice-part-items.result.now c.loop-number.number no_part c.as_slice-part-items.ensures
    c.loop-number-test.true c.loop-number.invariant (λ rise. false≢true (c.if-not-rises.ensures.1 rise))
