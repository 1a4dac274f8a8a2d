-- Layer by layer, edge by edge, cell by cell.
use Rattle.apart_laws.proofs.OneLemmas.{one-parting}
use Rattle.apart_laws.proofs.parted.one_parting.Goals as goal

pub returns : goal.returns
returns c = one-parting
