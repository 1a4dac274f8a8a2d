use Rattle.cascade.proofs.ResolvingLemmas.{every_resolved}
use Rattle.cascade.proofs.laws.every_source_is_resolved.Goals as goal

pub returns : goal.returns
returns c = every_resolved
