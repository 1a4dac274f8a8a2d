use Rattle.state_laws.proofs.runs.shown_has_value.Goals as goal
use Rattle.state_laws.proofs.RunLemmas.{shown-met}

pub returns : goal.returns
returns c = shown-met
