use Rattle.state_laws.proofs.wrong.cover_run_breaks.Goals as goal
use Rattle.state_laws.proofs.WrongSlotLemmas.{cover_run-breaks}

pub returns : goal.returns
returns c = cover_run-breaks
