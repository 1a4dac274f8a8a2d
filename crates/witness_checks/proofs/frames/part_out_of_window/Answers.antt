-- The frames of all parts lie in the window.
use Rattle.witness_checks.specs.Faults.{LiesInWindow}
use Rattle.witness_checks.proofs.FirstLemmas.{before-all}
use Rattle.witness_checks.proofs.frames.part_out_of_window.Goals as goal

pub returns : goal.returns
returns c =
    before-all (LiesInWindow c.args.setup.now c.args.witness.now) c.args.witness.now.parts c.as_slice-part-items.result.now c.loop-number.number
    c.as_slice-part-items.ensures c.loop-number-test.false c.loop-number.invariant
