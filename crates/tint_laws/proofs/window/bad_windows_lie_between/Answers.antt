-- The law is proved in `proofs/WindowLemmas`.
use Rattle.tint_laws.proofs.WindowLemmas as laws
use Rattle.tint_laws.proofs.window.bad_windows_lie_between.Goals as goal

pub returns : goal.returns
returns c = laws.bad_windows_lie_between
