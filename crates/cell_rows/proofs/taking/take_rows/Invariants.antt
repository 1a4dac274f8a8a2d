use Rattle.cell_rows.specs.CellRows.{AreTaken}
use Rattle.cell_rows.proofs.taking.take_rows.Given as goal

abbrev pub invariant-loop : goal.invariant-loop
invariant-loop l = AreTaken l.counter l.fn.pool l.pool
