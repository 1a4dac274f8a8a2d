use Rattle.fraction_laws.proofs.fractions.distance_is_small.Goals as goal
use Rattle.fraction_laws.proofs.SizeLemmas.{distance-small}

pub returns : goal.returns
returns c = distance-small
