use Rattle.wide_laws.proofs.loose.exact_kind_is_exact.Goals as goal
use Rattle.wide_laws.proofs.WideLemmas.{exact-exact}

pub returns : goal.returns
returns c = exact-exact
