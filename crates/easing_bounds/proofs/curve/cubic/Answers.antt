-- The products fit.
use Rattle.std.proofs.Common.{arith, ◌-◌}
use Rattle.easing_bounds.proofs.CurveLemmas.{cubic-small}
use Rattle.easing_bounds.proofs.curve.cubic.Goals as goal

pub overflow_mul-result : goal.overflow_mul-result
overflow_mul-result c =
    let h = cubic-small c.args.first c.args.second (4194304 - c.args.place) c.args.place c.requires.first c.requires.second (omega arith) c.requires.inside in
    omega (arith, h)

pub returns-clause-small : goal.returns-clause-small
returns-clause-small c =
    cubic-small c.args.first c.args.second (4194304 - c.args.place) c.args.place c.requires.first c.requires.second (omega arith) c.requires.inside
