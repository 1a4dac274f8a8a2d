use Rattle.std.proofs.Common.{arith, ◌≤◌, ◌<◌, ◌+◌, ◌*◌, List, ℕ, length, subst, sym}
use Rattle.cell_rows.proofs.DoneLemmas.{pushed-more}
use Rattle.cell_rows.proofs.pushing.push_frame.Goals as goal

pub loop-number-preserved : goal.loop-number-preserved
loop-number-preserved c =
    let known : c.loop-number.number < length c.args.tints.now = c.loop-number-test.true in
    let here : c.loop-number.number < length c.loop-number.flags = omega (arith, known, c.loop-number.auto.flags, c.requires.room) in
    pushed-more c.args.rate c.args.turn c.loop-number.number c.args.tints.now c.loop-number.flags c.args.pool.now c.loop-number.pool c.push.new.pool _ c.push.result
    c.loop-number.invariant known here
    (subst (λ (row : List ℕ). 9 * (c.args.rate + 1) ≤ length row) (sym (c.loop-number.invariant.rest c.loop-number.number (omega arith))) (c.requires.roomy c.loop-number.number known).1)
    c.push.ensures

pub returns-clause-pushed : goal.returns-clause-pushed
returns-clause-pushed c = λ number tint flag h. c.loop-number.invariant.each number (omega (arith, h, c.loop-number-test.false)) tint flag
