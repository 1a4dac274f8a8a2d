use Rattle.wide_laws.proofs.tints.wide_tint_holds_colour.Goals as goal
use Rattle.wide_laws.proofs.HeldTintLemmas.{wide_tint-holds}

pub returns : goal.returns
returns c = wide_tint-holds
