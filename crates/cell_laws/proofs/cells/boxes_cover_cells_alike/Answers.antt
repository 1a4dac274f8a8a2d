-- Between neighbouring edges lies no end of a box.
use Rattle.cell_laws.proofs.BoxLemmas.{boxes-alike}
use Rattle.cell_laws.proofs.cells.boxes_cover_cells_alike.Goals as goal

pub returns : goal.returns
returns c = boxes-alike
