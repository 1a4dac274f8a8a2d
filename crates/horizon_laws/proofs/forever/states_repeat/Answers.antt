-- By the courses of the layer.
use Rattle.horizon_laws.proofs.StateLemmas.{states-repeat}
use Rattle.horizon_laws.proofs.forever.states_repeat.Goals as goal

pub returns : goal.returns
returns c = states-repeat
