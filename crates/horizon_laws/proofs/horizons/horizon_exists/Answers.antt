-- Each animation settles, and a common multiple of all cycles can be had.
use Rattle.horizon_laws.proofs.SettledLemmas.{horizon-exists, needed-exists}
use Rattle.horizon_laws.proofs.horizons.horizon_exists.Goals as goal

pub returns : goal.returns
returns c = record { horizon = horizon-exists; needed = needed-exists }
