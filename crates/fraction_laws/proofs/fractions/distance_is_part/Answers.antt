use Rattle.fraction_laws.proofs.fractions.distance_is_part.Goals as goal
use Rattle.fraction_laws.proofs.FractionLemmas.{distance-is_part}

pub returns : goal.returns
returns c = distance-is_part
