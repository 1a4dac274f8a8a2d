use Rattle.fraction_laws.proofs.fractions.progress_is_part.Goals as goal
use Rattle.fraction_laws.proofs.FractionLemmas.{progress-part}

pub returns : goal.returns
returns c = progress-part
