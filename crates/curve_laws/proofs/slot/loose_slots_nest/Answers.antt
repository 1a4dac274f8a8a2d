-- The law is proved in `proofs/SlotLemmas`.
use Rattle.curve_laws.proofs.SlotLemmas as laws
use Rattle.curve_laws.proofs.slot.loose_slots_nest.Goals as goal

pub returns : goal.returns
returns c = laws.loose_slots_nest
