use Rattle.state_laws.proofs.wrong.half_down_breaks.Goals as goal
use Rattle.state_laws.proofs.WrongSlotLemmas.{half_down-breaks}

pub returns : goal.returns
returns c = half_down-breaks
