-- Rising lists with the same numbers are one.
use Rattle.cell_laws.proofs.EdgeLemmas.{cuts-one}
use Rattle.cell_laws.proofs.cells.cuts_are_one.Goals as goal

pub returns : goal.returns
returns c = cuts-one
