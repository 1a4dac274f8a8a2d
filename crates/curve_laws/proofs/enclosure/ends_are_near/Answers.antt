-- The law is proved in `proofs/EnclosureLemmas`.
use Rattle.curve_laws.proofs.EnclosureLemmas as laws
use Rattle.curve_laws.proofs.enclosure.ends_are_near.Goals as goal

pub returns : goal.returns
returns c = laws.ends_are_near
