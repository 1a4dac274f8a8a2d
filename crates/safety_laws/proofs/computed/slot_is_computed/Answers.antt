use Rattle.safety_laws.proofs.computed.slot_is_computed.Goals as goal
use Rattle.safety_laws.proofs.RoundingLemmas.{slot-computed}

pub returns : goal.returns
returns c = slot-computed
