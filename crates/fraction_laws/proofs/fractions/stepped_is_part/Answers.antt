use Rattle.fraction_laws.proofs.fractions.stepped_is_part.Goals as goal
use Rattle.fraction_laws.proofs.FractionLemmas.{stepped-part}

pub returns : goal.returns
returns c = stepped-part
