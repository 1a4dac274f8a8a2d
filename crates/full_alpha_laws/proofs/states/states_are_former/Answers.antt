-- The law is proved in `proofs/StateLemmas`.
use Rattle.full_alpha_laws.proofs.StateLemmas as laws
use Rattle.full_alpha_laws.proofs.states.states_are_former.Goals as goal

pub returns : goal.returns
returns c = laws.states_are_former
