-- The law is proved in `proofs/ChannelLemmas`.
use Rattle.curve_laws.proofs.ChannelLemmas as laws
use Rattle.curve_laws.proofs.slot.loose_channels_nest.Goals as goal

pub returns : goal.returns
returns c = laws.loose_channels_nest
