use Rattle.curve_laws.proofs.ends.curve_ends.Goals as goal
use Rattle.curve_laws.proofs.CurveEndLemmas.{curve-ends_law}

pub returns : goal.returns
returns c = curve-ends_law
