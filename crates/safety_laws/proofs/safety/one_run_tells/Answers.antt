use Rattle.safety_laws.proofs.safety.one_run_tells.Goals as goal
use Rattle.safety_laws.proofs.SafetyLemmas.{one_run-tells}

pub returns : goal.returns
returns c = one_run-tells
