use Rattle.state_laws.proofs.runs.some_run_exists.Goals as goal
use Rattle.state_laws.proofs.RunLemmas.{run-met}

pub returns : goal.returns
returns c = run-met
