use Rattle.state_laws.proofs.slots.state_is_unique.Goals as goal
use Rattle.state_laws.proofs.UniqueLemmas.{state-unique}

pub returns : goal.returns
returns c = state-unique
