-- A run one period later, and one period earlier.
use Rattle.horizon_laws.proofs.EnoughLemmas.{bad_windows-repeat}
use Rattle.horizon_laws.proofs.forever.bad_windows_repeat.Goals as goal

pub returns : goal.returns
returns c = bad_windows-repeat
