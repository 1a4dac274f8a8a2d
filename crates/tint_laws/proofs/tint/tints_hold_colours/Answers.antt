-- The law is proved in `proofs/TintLemmas`.
use Rattle.tint_laws.proofs.TintLemmas as laws
use Rattle.tint_laws.proofs.tint.tints_hold_colours.Goals as goal

pub returns : goal.returns
returns c = laws.tints_hold_colours
