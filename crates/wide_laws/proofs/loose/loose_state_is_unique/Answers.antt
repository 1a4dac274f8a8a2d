use Rattle.wide_laws.proofs.loose.loose_state_is_unique.Goals as goal
use Rattle.wide_laws.proofs.LooseLemmas.{loose_state-unique}

pub returns : goal.returns
returns c = loose_state-unique
