use Rattle.wide_laws.proofs.kinds.surely_bad_is_bad.Goals as goal
use Rattle.wide_laws.proofs.WideKindLemmas.{surely_bad-bad}

pub returns : goal.returns
returns c = surely_bad-bad
