use Rattle.cell_flags.specs.Flags.{AreFlagsBefore}
use Rattle.cell_flags.proofs.cells.flags_of_cells.Given as goal

abbrev pub invariant-loop-cell : goal.invariant-loop-cell
invariant-loop-cell l = AreFlagsBefore l.tints.items l.cells l.rate l.windows l.cell l.flags.items
