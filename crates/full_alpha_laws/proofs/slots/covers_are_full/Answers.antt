-- The law is proved in `proofs/SlotLemmas`.
use Rattle.full_alpha_laws.proofs.SlotLemmas as laws
use Rattle.full_alpha_laws.proofs.slots.covers_are_full.Goals as goal

pub returns : goal.returns
returns c = laws.covers_are_full
