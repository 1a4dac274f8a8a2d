-- The first fault of a group of conditions is the first of all; and what is tested says which window is bad, and what is accepted.
use Rattle.std.proofs.lemmas.Result.{err_from_is_err_and}
use Rattle.witness_checks.proofs.JudgementLemmas.{answered-ok, ok-bad}
use Rattle.witness_checks.proofs.accepting.accepts.Goals as goal

pub returns-in_err-test_place-clause-tested : goal.returns-in_err-test_place-clause-tested
returns-in_err-test_place-clause-tested c =
    let p = err_from_is_err_and c.from_residual.result c.from_residual.ensures.1 in
    rw (p.1, p.2) (c.in_err-test_place.ensures c.args.scene.now)

pub returns-in_err-test_place-clause-exactly : goal.returns-in_err-test_place-clause-exactly
returns-in_err-test_place-clause-exactly c =
    answered-ok c.args.scene.now c.args.setup.now c.args.witness.now c.from_residual.result (returns-in_err-test_place-clause-tested c)

pub returns-in_err-test_area-clause-tested : goal.returns-in_err-test_area-clause-tested
returns-in_err-test_area-clause-tested c =
    let p = err_from_is_err_and c.from_residual-in_err-test_area.result c.from_residual-in_err-test_area.ensures.1 in
    rw (p.1, p.2) (c.in_err-test_area.ensures c.args.scene.now)

pub returns-in_err-test_area-clause-exactly : goal.returns-in_err-test_area-clause-exactly
returns-in_err-test_area-clause-exactly c =
    answered-ok c.args.scene.now c.args.setup.now c.args.witness.now c.from_residual-in_err-test_area.result (returns-in_err-test_area-clause-tested c)

pub returns-in_err-test_frames-clause-tested : goal.returns-in_err-test_frames-clause-tested
returns-in_err-test_frames-clause-tested c =
    let p = err_from_is_err_and c.from_residual-in_err-test_frames.result c.from_residual-in_err-test_frames.ensures.1 in
    rw (p.1, p.2) (c.in_err-test_frames.ensures c.args.scene.now)

pub returns-in_err-test_frames-clause-exactly : goal.returns-in_err-test_frames-clause-exactly
returns-in_err-test_frames-clause-exactly c =
    answered-ok c.args.scene.now c.args.setup.now c.args.witness.now c.from_residual-in_err-test_frames.result (returns-in_err-test_frames-clause-tested c)

pub returns-clause-bad : goal.returns-clause-bad
returns-clause-bad c = ok-bad c.args.scene.now c.args.setup.now c.args.witness.now c.test_tints.result c.requires.valid c.test_tints.ensures

pub returns-clause-exactly : goal.returns-clause-exactly
returns-clause-exactly c = answered-ok c.args.scene.now c.args.setup.now c.args.witness.now c.test_tints.result c.test_tints.ensures
