use Rattle.fraction_laws.proofs.intervals.interval_exists.Goals as goal
use Rattle.fraction_laws.proofs.StopLemmas.{interval-exists}

pub returns : goal.returns
returns c = interval-exists
