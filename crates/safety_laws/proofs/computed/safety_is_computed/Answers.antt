use Rattle.safety_laws.proofs.computed.safety_is_computed.Goals as goal
use Rattle.safety_laws.proofs.ComputedLemmas.{safety-computed}

pub returns : goal.returns
returns c = safety-computed
