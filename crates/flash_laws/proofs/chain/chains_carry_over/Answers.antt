-- The law is proved in `proofs/ChainLemmas`.
use Rattle.flash_laws.proofs.ChainLemmas.{has_chain-carried}
use Rattle.flash_laws.proofs.chain.chains_carry_over.Goals as goal

pub returns : goal.returns
returns g c = has_chain-carried g.C.Changing.up g.C.Changing.down g.D.Changing.up g.D.Changing.down
