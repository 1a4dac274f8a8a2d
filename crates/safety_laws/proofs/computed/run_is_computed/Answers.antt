use Rattle.safety_laws.proofs.computed.run_is_computed.Goals as goal
use Rattle.safety_laws.proofs.ComputedLemmas.{run-computed}

pub returns : goal.returns
returns c = run-computed
