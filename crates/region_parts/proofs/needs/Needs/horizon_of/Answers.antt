-- As it is read.
use Rattle.region_parts.proofs.NeedLemmas.{own-read}
use Rattle.region_parts.proofs.needs.Needs.horizon_of.Goals as goal

pub returns : goal.returns
returns c = own-read c.args.self.now.horizons.items c.args.number c.from.result c.index.result.now c.from.ensures c.requires c.index.ensures
