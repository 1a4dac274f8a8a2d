use Rattle.wide_laws.proofs.painting.pixel_is_colour.Goals as goal
use Rattle.wide_laws.proofs.PaintLemmas.{pixel-colour}

pub returns : goal.returns
returns c = pixel-colour
