-- The last edge that is not behind the pixel.
use Rattle.cell_laws.proofs.EdgeLemmas.{pixels-in_cells}
use Rattle.cell_laws.proofs.cells.pixels_lie_in_cells.Goals as goal

pub returns : goal.returns
returns c = pixels-in_cells
