use Rattle.wide_laws.proofs.loose.wide_holds_exact.Goals as goal
use Rattle.wide_laws.proofs.WideLemmas.{wide-holds}

pub returns : goal.returns
returns c = wide-holds
