use Rattle.state_laws.proofs.runs.channel_has_value.Goals as goal
use Rattle.state_laws.proofs.RunLemmas.{channel-met}

pub returns : goal.returns
returns c = channel-met
