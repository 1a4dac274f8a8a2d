-- The law is proved in `proofs/AlikeLemmas`.
use Rattle.tint_laws.proofs.AlikeLemmas.{tint-alike}
use Rattle.tint_laws.proofs.tint.alike_pixels_have_one_tint.Goals as goal

pub returns : goal.returns
returns c = tint-alike
