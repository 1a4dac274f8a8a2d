-- The tints of one more part change, or those of all; and the first part whose tints cease to.
use Rattle.witness_checks.specs.Turns.{Changes}
use Rattle.witness_checks.proofs.FirstLemmas.{before-all, before-more, no_part, stop-here}
use Rattle.witness_checks.proofs.change.first_stop.Goals as goal

pub returns-in-Some : goal.returns-in-Some
returns-in-Some c =
    stop-here c.args.witness.now.parts c.as_slice-part-items.result.now c.loop-number.number c.in-Some.turn no_part c.as_slice-part-items.ensures
    c.loop-number-test.true c.loop-number.invariant c.in-Some.ensures

pub loop-number-preserved : goal.loop-number-preserved
loop-number-preserved c =
    before-more Changes c.args.witness.now.parts c.as_slice-part-items.result.now c.loop-number.number no_part c.as_slice-part-items.ensures
    c.loop-number.invariant c.in_default.ensures

pub returns : goal.returns
returns c =
    before-all Changes c.args.witness.now.parts c.as_slice-part-items.result.now c.loop-number.number
    c.as_slice-part-items.ensures c.loop-number-test.false c.loop-number.invariant
