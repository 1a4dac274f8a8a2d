-- Frame by frame, each one period earlier.
use Rattle.horizon_laws.proofs.EarlierLemmas.{frames_have-earlier}
use Rattle.horizon_laws.proofs.forever.frames_have_earlier.Goals as goal

pub returns : goal.returns
returns c = frames_have-earlier
