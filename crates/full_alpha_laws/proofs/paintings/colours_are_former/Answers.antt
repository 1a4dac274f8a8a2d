-- The law is proved in `proofs/PaintingLemmas`.
use Rattle.full_alpha_laws.proofs.PaintingLemmas as laws
use Rattle.full_alpha_laws.proofs.paintings.colours_are_former.Goals as goal

pub returns : goal.returns
returns c = laws.colours_are_former
