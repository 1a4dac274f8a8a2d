use Rattle.wide_laws.proofs.painting.blend_grows.Goals as goal
use Rattle.wide_laws.proofs.PaintLemmas.{blend-grows}

pub returns : goal.returns
returns c = blend-grows
