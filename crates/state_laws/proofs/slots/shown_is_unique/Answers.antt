use Rattle.state_laws.proofs.slots.shown_is_unique.Goals as goal
use Rattle.state_laws.proofs.UniqueLemmas.{shown-unique}

pub returns : goal.returns
returns c = shown-unique
