use Rattle.fraction_laws.proofs.intervals.interval_is_computed.Goals as goal
use Rattle.fraction_laws.proofs.StopLemmas.{interval-computed}

pub returns : goal.returns
returns c = interval-computed
