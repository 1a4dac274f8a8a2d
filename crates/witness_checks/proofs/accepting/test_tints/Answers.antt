-- The first part whose tints don't change in turn, or all conditions.
use Rattle.witness_checks.specs.Faults.{IsTinted}
use Rattle.witness_checks.proofs.JudgementLemmas.{accepted-from, stop-told}
use Rattle.witness_checks.proofs.accepting.test_tints.Goals as goal

pub returns-in-Some-first_stop : goal.returns-in-Some-first_stop
returns-in-Some-first_stop c =
    let tinted : IsTinted c.args.scene.now c.args.setup.now c.args.witness.now = record { timed = c.requires.timed; tints = c.in_default.ensures } in
    stop-told c.args.scene.now c.args.setup.now c.args.witness.now c.in-Some-first_stop.stop.part c.in-Some-first_stop.stop.turn
    tinted c.in-Some-first_stop.ensures

pub returns : goal.returns
returns c =
    let tinted : IsTinted c.args.scene.now c.args.setup.now c.args.witness.now = record { timed = c.requires.timed; tints = c.in_default.ensures } in
    accepted-from c.args.scene.now c.args.setup.now c.args.witness.now tinted c.in_default-first_stop.ensures
