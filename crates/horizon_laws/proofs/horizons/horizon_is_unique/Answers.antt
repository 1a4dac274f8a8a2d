-- Least numbers are unique.
use Rattle.horizon_laws.proofs.LeastLemmas.{IsLeast-unique, needed-unique}
use Rattle.horizon_laws.proofs.horizons.horizon_is_unique.Goals as goal

pub returns : goal.returns
returns c = record {
  settled = λ setup anims one other first second. IsLeast-unique _ one other first second;
  period = λ setup anims one other first second. IsLeast-unique _ one other first second;
  needed = needed-unique;
}
