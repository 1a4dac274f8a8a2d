use Rattle.safety_laws.proofs.safety.safe_by_one_painting.Goals as goal
use Rattle.safety_laws.proofs.SafetyLemmas.{safe-one_painting}

pub returns : goal.returns
returns c = safe-one_painting
