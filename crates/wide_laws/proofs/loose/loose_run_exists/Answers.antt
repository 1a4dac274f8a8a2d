use Rattle.wide_laws.proofs.loose.loose_run_exists.Goals as goal
use Rattle.wide_laws.proofs.LooseLemmas.{loose_run-met}

pub returns : goal.returns
returns c = loose_run-met
