-- The law is proved in `proofs/EnclosureLemmas`.
use Rattle.curve_laws.proofs.EnclosureLemmas as laws
use Rattle.curve_laws.proofs.enclosure.intervals_nest.Goals as goal

pub returns : goal.returns
returns c = laws.intervals_nest
