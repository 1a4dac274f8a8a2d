use Rattle.state_laws.proofs.wrong.some_breaks.Goals as goal
use Rattle.state_laws.proofs.WrongSlotLemmas.{some-breaks}

pub returns : goal.returns
returns c = some-breaks
