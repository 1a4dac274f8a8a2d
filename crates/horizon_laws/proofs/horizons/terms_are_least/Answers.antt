-- By the lemmas on terms.
use Rattle.horizon_laws.proofs.LeastLemmas.{IsLeast-unique}
use Rattle.horizon_laws.proofs.TermLemmas.{term-exists, term-by_divisor, term-multiples}
use Rattle.horizon_laws.proofs.horizons.terms_are_least.Goals as goal

pub returns : goal.returns
returns c = record {
  exists = term-exists;
  unique = λ setup anim one other first second. IsLeast-unique _ one other first second;
  by_divisor = term-by_divisor;
  multiples = term-multiples;
}
