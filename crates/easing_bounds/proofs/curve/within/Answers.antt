-- The ends are the own ones, and so the value lies between them and near to each.
use Rattle.std.proofs.Common.{arith, subst, sym, FitsSigned}
use Rattle.std.specs.Int.{w16, w128}
use Rattle.std.proofs.lemmas.Int.{ints, to_z-of_z}
use Rattle.fix_span.specs.Frac.{fraction_of}
use Rattle.fix_span.specs.declared.span.Span.{Span}
use Rattle.easing_bounds.specs.Value.{AreModest}
use Rattle.easing_bounds.specs.Within.{AreNear, HoldsCurve}
use Rattle.easing_bounds.proofs.CurveLemmas.{holds-own, own-modest, own-near, parts-are, span-is}
use Rattle.easing_bounds.proofs.curve.within.Goals as goal

pub overflow_sub-result : goal.overflow_sub-result
overflow_sub-result c =
    let low = c.rounded_down-parts.ensures.range.at_least in
    let high = c.rounded_down-parts.ensures.range.at_most in
    omega (arith, ints, low, high)

pub returns-clause-ends : goal.returns-clause-ends
returns-clause-ends c =
    let low = c.rounded_down-parts.ensures.range.at_least in
    let high = c.rounded_down-parts.ensures.range.at_most in
    let least = c.height.ensures.range.at_least in
    let most = c.height.ensures.range.at_most in
    let fits : FitsSigned w128 c.height.result = omega (arith, ints, least, most) in
    let parts = rw (to_z-of_z w128 c.height.result fits) at c.rounded_down-parts.ensures.value in
    let height = rw (to_z-of_z w16 c.args.y1 c.ranges.y1, to_z-of_z w16 c.args.y2 c.ranges.y2) at c.height.ensures.value in
    let own = parts-are c.args.x1 c.args.y1 c.args.x2 c.args.y2 (fraction_of c.args.x) c.point-place.result c.height.result
    c.rounded_down-parts.result c.point-place.ensures.value height parts in
    span-is c.args.x1 c.args.y1 c.args.x2 c.args.y2 (fraction_of c.args.x) c.rounded_down-parts.result _ _ own
    (omega (arith, ints, low, high)) (omega (arith, ints, low, high))

pub returns-clause-holds : goal.returns-clause-holds
returns-clause-holds c =
    subst (λ (span : Span 30). HoldsCurve c.args.x1 c.args.y1 c.args.x2 c.args.y2 (fraction_of c.args.x) span) (sym (returns-clause-ends c))
    (holds-own c.args.x1 c.args.y1 c.args.x2 c.args.y2 c.requires.limits (fraction_of c.args.x))

pub returns-clause-near : goal.returns-clause-near
returns-clause-near c =
    subst (λ (span : Span 30). AreNear c.args.x1 c.args.y1 c.args.x2 c.args.y2 (fraction_of c.args.x) span) (sym (returns-clause-ends c))
    (own-near c.args.x1 c.args.y1 c.args.x2 c.args.y2 (fraction_of c.args.x))

pub returns-clause-modest : goal.returns-clause-modest
returns-clause-modest c =
    let least = c.height.ensures.range.at_least in
    let most = c.height.ensures.range.at_most in
    let fits : FitsSigned w128 c.height.result = omega (arith, ints, least, most) in
    let parts = rw (to_z-of_z w128 c.height.result fits) at c.rounded_down-parts.ensures.value in
    let height = rw (to_z-of_z w16 c.args.y1 c.ranges.y1, to_z-of_z w16 c.args.y2 c.ranges.y2) at c.height.ensures.value in
    let own = parts-are c.args.x1 c.args.y1 c.args.x2 c.args.y2 (fraction_of c.args.x) c.point-place.result c.height.result
    c.rounded_down-parts.result c.point-place.ensures.value height parts in
    subst AreModest (sym (returns-clause-ends c))
    (own-modest c.args.x1 c.args.y1 c.args.x2 c.args.y2 (fraction_of c.args.x) c.rounded_down-parts.result own c.rounded_down-parts.ensures.range)
