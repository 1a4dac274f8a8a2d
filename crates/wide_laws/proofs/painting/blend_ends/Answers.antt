use Rattle.wide_laws.proofs.painting.blend_ends.Goals as goal
use Rattle.wide_laws.proofs.PaintLemmas.{blend-ends}

pub returns : goal.returns
returns c = blend-ends
