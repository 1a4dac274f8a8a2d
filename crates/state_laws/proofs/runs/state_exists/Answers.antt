use Rattle.state_laws.proofs.runs.state_exists.Goals as goal
use Rattle.state_laws.proofs.RunLemmas.{state-met}

pub returns : goal.returns
returns c = state-met
