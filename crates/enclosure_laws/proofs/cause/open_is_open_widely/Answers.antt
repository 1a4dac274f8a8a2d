-- The law is proved in `proofs/CauseLemmas`.
use Rattle.enclosure_laws.proofs.CauseLemmas.{open-widely}
use Rattle.enclosure_laws.proofs.cause.open_is_open_widely.Goals as goal

pub returns : goal.returns
returns c = open-widely
