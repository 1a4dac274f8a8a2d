use Rattle.curve_laws.proofs.ends.counts_by_number.Goals as goal
use Rattle.curve_laws.proofs.NumberLemmas.{counts-by_number}

pub returns : goal.returns
returns c = counts-by_number
