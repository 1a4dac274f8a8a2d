-- The law is proved in `proofs/DecidedTintLemmas`.
use Rattle.enclosure_laws.proofs.DecidedTintLemmas.{bad_by_tints-decided}
use Rattle.enclosure_laws.proofs.cause.bad_by_tints_is_decided.Goals as goal

pub returns : goal.returns
returns c = bad_by_tints-decided
