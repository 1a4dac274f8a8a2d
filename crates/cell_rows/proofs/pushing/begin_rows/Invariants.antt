use Rattle.cell_rows.specs.CellRows.{IsBegun}
use Rattle.cell_rows.proofs.DoneLemmas.{AreDone}
use Rattle.cell_rows.proofs.pushing.begin_rows.Given as goal

abbrev pub invariant-loop-number : goal.invariant-loop-number
invariant-loop-number l = AreDone (λ k before after. IsBegun l.rate before after) l.number l.fn.pool l.pool
