use Rattle.std.proofs.Common.{refl}
use Rattle.window_area.specs.Sliding.{is_scanned}
use Rattle.window_area.proofs.best.Lead.looked_at.Goals as goal

pub returns : goal.returns
returns c =
    is_scanned c.most_in_strip-most.result c.most_in_strip-most.ensures.most c.most_in_strip-most.ensures.early refl c.or_later.ensures
