-- The law is proved in `proofs/WrongCurveLemmas`.
use Rattle.curve_laws.proofs.WrongCurveLemmas as laws
use Rattle.curve_laws.proofs.curve.bare_reach_breaks.Goals as goal

pub returns : goal.returns
returns c = laws.bare_reach_breaks
