-- The law is proved in `proofs/KindLemmas`.
use Rattle.tint_laws.proofs.KindLemmas as laws
use Rattle.tint_laws.proofs.window.kinds_of_bad_windows_nest.Goals as goal

pub returns : goal.returns
returns c = laws.kinds_of_bad_windows_nest
