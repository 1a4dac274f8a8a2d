-- The law is proved in `proofs/CurveLemmas`.
use Rattle.curve_laws.proofs.CurveLemmas as laws
use Rattle.curve_laws.proofs.curve.reach_is_kept_at_finer_scales.Goals as goal

pub returns : goal.returns
returns c = laws.reach_is_kept_at_finer_scales
