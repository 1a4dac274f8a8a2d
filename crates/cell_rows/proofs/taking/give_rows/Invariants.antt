use Rattle.cell_rows.proofs.TakenLemmas.{AreBack}
use Rattle.cell_rows.proofs.taking.give_rows.Given as goal

abbrev pub invariant-loop-number : goal.invariant-loop-number
invariant-loop-number l = AreBack l.number l.fn.pool l.pool
