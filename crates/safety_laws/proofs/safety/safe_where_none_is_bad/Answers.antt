use Rattle.safety_laws.proofs.safety.safe_where_none_is_bad.Goals as goal
use Rattle.safety_laws.proofs.SafetyLemmas.{safe-none_bad}

pub returns : goal.returns
returns c = safe-none_bad
