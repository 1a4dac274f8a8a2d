-- The dividend fits, since its quotient by the unit does.
use Rattle.std.proofs.Common.{arith, pos, ◌≡◌, ◌+◌, ◌/◌, ◌+ℤ◌, ◌∙◌, ap, FitsSigned}
use Rattle.std.specs.Prelude.{if◌then◌else◌}
use Rattle.std.specs.Int.{w128}
use Rattle.std.proofs.lemmas.Int.{ints}
use Rattle.fix_span.specs.Frac.{whole_part, half_of_unit}
use Rattle.fix_span.proofs.NestedLemmas.{dividend_fits}
use Rattle.fix_span.proofs.rounding.dividend_of.Goals as goal

pub overflow_add-result : goal.overflow_add-result
overflow_add-result c =
    let half : c.half_of.result ≡ half_of_unit c.args.x c.args.unit =
    c.half_of.ensures ∙ ap (λ more. (c.args.unit + (if more then 1 else 0)) / 2) c.is_past.ensures in
    let fits : FitsSigned w128 (whole_part c.args.x +ℤ pos (half_of_unit c.args.x c.args.unit)) = dividend_fits c.args.x c.args.unit (omega arith) c.requires in
    omega (arith, ints, half, fits)

pub returns : goal.returns
returns c =
    let half : c.half_of.result ≡ half_of_unit c.args.x c.args.unit =
    c.half_of.ensures ∙ ap (λ more. (c.args.unit + (if more then 1 else 0)) / 2) c.is_past.ensures in
    let fits : FitsSigned w128 (whole_part c.args.x +ℤ pos (half_of_unit c.args.x c.args.unit)) = dividend_fits c.args.x c.args.unit (omega arith) c.requires in
    omega (arith, ints, half, fits)
