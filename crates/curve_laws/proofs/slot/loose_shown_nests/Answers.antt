-- The law is proved in `proofs/SlotLemmas`.
use Rattle.curve_laws.proofs.SlotLemmas as laws
use Rattle.curve_laws.proofs.slot.loose_shown_nests.Goals as goal

pub returns : goal.returns
returns c = laws.loose_shown_nests
