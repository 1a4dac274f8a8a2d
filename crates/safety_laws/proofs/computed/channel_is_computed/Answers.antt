use Rattle.safety_laws.proofs.computed.channel_is_computed.Goals as goal
use Rattle.safety_laws.proofs.ChannelLemmas.{channel-computed}

pub returns : goal.returns
returns c = channel-computed
