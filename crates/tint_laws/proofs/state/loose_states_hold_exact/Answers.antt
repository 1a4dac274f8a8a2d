-- The law is proved in `proofs/WindowLemmas`.
use Rattle.tint_laws.proofs.WindowLemmas.{state-within}
use Rattle.tint_laws.proofs.state.loose_states_hold_exact.Goals as goal

pub returns : goal.returns
returns c = state-within
