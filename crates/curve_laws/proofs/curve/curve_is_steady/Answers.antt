-- The law is proved in `proofs/CurveLemmas`.
use Rattle.curve_laws.proofs.CurveLemmas as laws
use Rattle.curve_laws.proofs.curve.curve_is_steady.Goals as goal

pub returns : goal.returns
returns c = laws.curve_is_steady
