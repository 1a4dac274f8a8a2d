-- The law is proved in `proofs/CauseLemmas`.
use Rattle.enclosure_laws.proofs.CauseLemmas.{bad_windows-ordered}
use Rattle.enclosure_laws.proofs.cause.bad_windows_are_ordered.Goals as goal

pub returns : goal.returns
returns c = bad_windows-ordered
