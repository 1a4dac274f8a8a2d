use Rattle.cell_rows.proofs.TakenLemmas.{taken-more}
use Rattle.cell_rows.proofs.taking.take_rows.Goals as goal

pub loop-preserved : goal.loop-preserved
loop-preserved c =
    taken-more c.loop.counter c.args.pool.now c.loop.pool c.take.new.self c.take.result c.loop.invariant (c.requires c.loop.counter c.loop-test.true) c.take.ensures
