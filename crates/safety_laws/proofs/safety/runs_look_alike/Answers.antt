use Rattle.safety_laws.proofs.safety.runs_look_alike.Goals as goal
use Rattle.safety_laws.proofs.SafetyLemmas.{runs-look_alike}

pub returns : goal.returns
returns c = runs-look_alike
