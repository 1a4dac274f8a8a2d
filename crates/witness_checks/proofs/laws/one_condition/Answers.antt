use Rattle.witness_checks.proofs.OneLemmas.{one-condition}
use Rattle.witness_checks.proofs.laws.one_condition.Goals as goal

pub returns : goal.returns
returns c = one-condition
