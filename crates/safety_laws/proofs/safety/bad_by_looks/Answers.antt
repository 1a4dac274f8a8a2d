use Rattle.safety_laws.proofs.safety.bad_by_looks.Goals as goal
use Rattle.safety_laws.proofs.SafetyLemmas.{bad-by_looks}

pub returns : goal.returns
returns c = bad-by_looks
