use Rattle.safety_laws.proofs.computed.state_is_computed.Goals as goal
use Rattle.safety_laws.proofs.ComputedLemmas.{state-computed}

pub returns : goal.returns
returns c = state-computed
