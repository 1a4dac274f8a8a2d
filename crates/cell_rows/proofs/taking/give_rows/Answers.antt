use Rattle.cell_rows.proofs.TakenLemmas.{back-more}
use Rattle.cell_rows.proofs.taking.give_rows.Goals as goal

pub loop-number-preserved : goal.loop-number-preserved
loop-number-preserved c =
    back-more c.loop-number.number c.args.pool.now c.loop-number.pool c.give.new.self c.loop-number.invariant
    (c.requires c.loop-number.number c.loop-number-test.true) c.give.ensures
