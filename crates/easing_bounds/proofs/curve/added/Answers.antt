-- Both terms have three factors of the point's numbers, whose sum is the scale.
use Rattle.std.proofs.Common.{arith, ◌-◌}
use Rattle.easing_bounds.proofs.CurveLemmas.{raise-is}
use Rattle.easing_bounds.proofs.curve.added.Goals as goal

pub returns-clause-value : goal.returns-clause-value
returns-clause-value c = raise-is (4194304 - c.args.place) c.args.place 4194304 (omega arith)
