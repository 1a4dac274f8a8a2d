-- As it is read.
use Rattle.region_parts.proofs.NeedLemmas.{frames-read}
use Rattle.region_parts.proofs.needs.Needs.frames_of.Goals as goal

pub returns : goal.returns
returns c = frames-read c.args.self.now.frames.items c.args.number c.from.result c.index.result.now c.from.ensures c.requires c.index.ensures
