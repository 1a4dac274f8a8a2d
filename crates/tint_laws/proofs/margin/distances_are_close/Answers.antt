-- The law is proved in `proofs/CloseLemmas`.
use Rattle.tint_laws.proofs.CloseLemmas as laws
use Rattle.tint_laws.proofs.margin.distances_are_close.Goals as goal

pub returns : goal.returns
returns c = laws.distances_are_close
