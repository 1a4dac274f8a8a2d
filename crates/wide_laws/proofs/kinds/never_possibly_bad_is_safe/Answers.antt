use Rattle.wide_laws.proofs.kinds.never_possibly_bad_is_safe.Goals as goal
use Rattle.wide_laws.proofs.WideKindLemmas.{never_possibly-safe}

pub returns : goal.returns
returns c = never_possibly-safe
