use Rattle.safety_laws.proofs.safety.blinking_is_bad.Goals as goal
use Rattle.safety_laws.proofs.BlinkingLemmas.{blinking-bad}

pub returns : goal.returns
returns c = blinking-bad
