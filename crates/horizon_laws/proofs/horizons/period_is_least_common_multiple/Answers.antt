-- By the lemmas on periods.
use Rattle.horizon_laws.proofs.PeriodLemmas.{period-exists, period-common, period-divides}
use Rattle.horizon_laws.proofs.horizons.period_is_least_common_multiple.Goals as goal

pub returns : goal.returns
returns c = record {
  exists = period-exists;
  common = period-common;
  divides_each = period-divides;
}
