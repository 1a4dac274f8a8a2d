-- Period by period.
use Rattle.period_frames.proofs.WindowLemmas.{windows-repeat}
use Rattle.period_frames.proofs.windows.windows_repeat.Goals as goal

pub returns : goal.returns
returns c = windows-repeat
