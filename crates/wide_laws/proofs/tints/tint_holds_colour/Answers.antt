use Rattle.wide_laws.proofs.tints.tint_holds_colour.Goals as goal
use Rattle.wide_laws.proofs.HeldTintLemmas.{tint-holds}

pub returns : goal.returns
returns c = tint-holds
