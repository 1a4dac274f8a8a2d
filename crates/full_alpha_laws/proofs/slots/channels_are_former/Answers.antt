-- The law is proved in `proofs/SlotLemmas`.
use Rattle.full_alpha_laws.proofs.SlotLemmas as laws
use Rattle.full_alpha_laws.proofs.slots.channels_are_former.Goals as goal

pub returns : goal.returns
returns c = laws.channels_are_former
