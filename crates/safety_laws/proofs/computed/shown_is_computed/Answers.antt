use Rattle.safety_laws.proofs.computed.shown_is_computed.Goals as goal
use Rattle.safety_laws.proofs.RoundingLemmas.{shown-computed}

pub returns : goal.returns
returns c = shown-computed
