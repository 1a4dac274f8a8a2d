use Rattle.std.proofs.Common.{arith, ◌≤◌, ◌+◌, ◌*◌, List, ℕ, length, subst, sym}
use Rattle.cell_rows.specs.CellRows.{IsBegun}
use Rattle.cell_rows.proofs.DoneLemmas.{done-more, row-known}
use Rattle.cell_rows.proofs.pushing.begin_rows.Goals as goal

pub loop-number-preserved : goal.loop-number-preserved
loop-number-preserved c =
    let rate : ℕ = c.args.rate in
    let number : ℕ = c.loop-number.number in
    let made = c.begin.ensures in
    done-more (λ k before after. IsBegun rate before after) number c.args.pool.now c.loop-number.pool c.begin.new.pool made.0
    c.loop-number.invariant made.2
    (row-known rate c.loop-number.pool number
    (subst (λ (row : List ℕ). 9 * (rate + 1) ≤ length row) (sym (c.loop-number.invariant.rest number (omega arith)))
    (c.requires.roomy number c.loop-number-test.true).1))
    made.1
