use Rattle.fraction_laws.proofs.fractions.overall_is_quotient.Goals as goal
use Rattle.fraction_laws.proofs.OverallLemmas.{overall-quotient}

pub returns : goal.returns
returns c = overall-quotient
