use Rattle.state_laws.proofs.slots.slot_is_unique.Goals as goal
use Rattle.state_laws.proofs.UniqueLemmas.{slot-unique}

pub returns : goal.returns
returns c = slot-unique
