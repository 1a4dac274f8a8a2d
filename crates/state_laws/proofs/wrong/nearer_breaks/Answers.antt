use Rattle.state_laws.proofs.wrong.nearer_breaks.Goals as goal
use Rattle.state_laws.proofs.WrongSlotLemmas.{nearer-breaks}

pub returns : goal.returns
returns c = nearer-breaks
