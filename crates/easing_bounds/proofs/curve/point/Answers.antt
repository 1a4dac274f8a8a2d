-- The last point whose column is at most the greatest one that isn't right of the input.
use Rattle.std.proofs.Common.{arith, sym}
use Rattle.std.proofs.lemmas.Int.{ints}
use Rattle.fix_span.specs.Frac.{fraction_of}
use Rattle.easing_bounds.proofs.CurveLemmas.{found}
use Rattle.easing_bounds.proofs.curve.point.Goals as goal

pub returns-clause-value : goal.returns-clause-value
returns-clause-value c =
    let positive = c.requires.share.positive in
    sym (found c.args.x1 c.args.x2 (fraction_of c.args.x) c.limit_of.result c.place_of.result c.requires.first c.requires.second
    (omega (arith, ints, positive)) c.limit_of.ensures.value c.place_of.ensures)
