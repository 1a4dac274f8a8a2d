-- One frame more at a time.
use Rattle.cell_laws.proofs.RunLemmas.{runs-met}
use Rattle.cell_laws.proofs.runs.runs_exist_below.Goals as goal

pub returns : goal.returns
returns c = runs-met
