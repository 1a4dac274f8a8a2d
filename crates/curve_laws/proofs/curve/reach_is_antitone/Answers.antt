-- The law is proved in `proofs/CurveLemmas`.
use Rattle.curve_laws.proofs.CurveLemmas as laws
use Rattle.curve_laws.proofs.curve.reach_is_antitone.Goals as goal

pub returns : goal.returns
returns c = laws.reach_is_antitone
