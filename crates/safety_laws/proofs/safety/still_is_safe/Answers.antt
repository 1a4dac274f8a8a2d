use Rattle.safety_laws.proofs.safety.still_is_safe.Goals as goal
use Rattle.safety_laws.proofs.StillLemmas.{still-safe}

pub returns : goal.returns
returns c = still-safe
