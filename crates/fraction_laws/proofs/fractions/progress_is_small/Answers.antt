use Rattle.fraction_laws.proofs.fractions.progress_is_small.Goals as goal
use Rattle.fraction_laws.proofs.SizeLemmas.{progress-small}

pub returns : goal.returns
returns c = progress-small
