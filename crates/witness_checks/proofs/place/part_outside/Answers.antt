-- All parts lie inside.
use Rattle.page_model.specs.WitnessConditions.{LiesInside}
use Rattle.witness_checks.proofs.FirstLemmas.{before-all}
use Rattle.witness_checks.proofs.place.part_outside.Goals as goal

pub returns : goal.returns
returns c =
    before-all (LiesInside c.args.setup.now c.args.witness.now) c.args.witness.now.parts c.as_slice-part-items.result.now c.loop-number.number
    c.as_slice-part-items.ensures c.loop-number-test.false c.loop-number.invariant
