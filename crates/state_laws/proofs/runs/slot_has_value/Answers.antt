use Rattle.state_laws.proofs.runs.slot_has_value.Goals as goal
use Rattle.state_laws.proofs.RunLemmas.{slot-met}

pub returns : goal.returns
returns c = slot-met
