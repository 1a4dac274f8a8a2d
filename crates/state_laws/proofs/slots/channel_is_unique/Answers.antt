use Rattle.state_laws.proofs.slots.channel_is_unique.Goals as goal
use Rattle.state_laws.proofs.UniqueLemmas.{channel-unique}

pub returns : goal.returns
returns c = channel-unique
