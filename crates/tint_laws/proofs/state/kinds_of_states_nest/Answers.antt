-- The law is proved in `proofs/KindLemmas`.
use Rattle.tint_laws.proofs.KindLemmas.{state-in}
use Rattle.tint_laws.proofs.state.kinds_of_states_nest.Goals as goal

pub returns : goal.returns
returns c = state-in
