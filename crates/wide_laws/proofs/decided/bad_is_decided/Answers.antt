use Rattle.wide_laws.proofs.decided.bad_is_decided.Goals as goal
use Rattle.wide_laws.proofs.DecidedLemmas.{bad-decided}

pub returns : goal.returns
returns c = bad-decided
