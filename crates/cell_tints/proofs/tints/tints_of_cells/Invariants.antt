use Rattle.cell_tints.specs.Tints.{AreTintsOfCells}
use Rattle.cell_tints.proofs.tints.tints_of_cells.Given as goal

abbrev pub invariant-loop-k : goal.invariant-loop-k
invariant-loop-k l = AreTintsOfCells l.scene l.setup l.cuts l.start l.k l.tints.items
