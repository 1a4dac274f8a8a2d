-- The law is proved in `proofs/TintNestLemmas`.
use Rattle.tint_laws.proofs.TintNestLemmas as laws
use Rattle.tint_laws.proofs.tint.tints_hold_tints.Goals as goal

pub returns : goal.returns
returns c = laws.tints_hold_tints
