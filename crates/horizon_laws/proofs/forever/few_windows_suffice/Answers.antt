-- Window by window, each one period earlier.
use Rattle.horizon_laws.proofs.EnoughLemmas.{few-suffice}
use Rattle.horizon_laws.proofs.forever.few_windows_suffice.Goals as goal

pub returns : goal.returns
returns c = few-suffice
