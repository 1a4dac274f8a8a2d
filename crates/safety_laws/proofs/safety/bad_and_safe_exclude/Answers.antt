use Rattle.safety_laws.proofs.safety.bad_and_safe_exclude.Goals as goal
use Rattle.safety_laws.proofs.SafetyLemmas.{bad-and_safe}

pub returns : goal.returns
returns c = bad-and_safe
