-- The law is proved in `proofs/RedLemmas`.
use Rattle.flash_laws.proofs.RedLemmas as laws
use Rattle.flash_laws.proofs.light.red_reads_backwards.Goals as goal

pub returns : goal.returns
returns c = laws.red_reads_backwards
