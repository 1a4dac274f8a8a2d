-- The raised height less what raising adds.
use Rattle.std.proofs.Common.{arith}
use Rattle.std.proofs.lemmas.Int.{ints}
use Rattle.easing_bounds.proofs.CurveLemmas.{height-from}
use Rattle.easing_bounds.proofs.curve.height.Goals as goal

pub returns-clause-value : goal.returns-clause-value
returns-clause-value c =
    let low = c.requires.first.at_least in
    let high = c.requires.first.at_most in
    let low' = c.requires.second.at_least in
    let high' = c.requires.second.at_most in
    let h = height-from c.args.y1 c.args.y2 _ _ _ _ c.cubic-raised.result c.added.result c.cubic-raised.ensures.value c.added.ensures.value
    (omega (arith, ints, low, high)) (omega (arith, ints, low', high')) in
    omega (arith, ints, h, c.cubic-raised.ensures.small, c.added.ensures.small)

pub returns-clause-range : goal.returns-clause-range
returns-clause-range c = record {
  at_least = omega (arith, ints, c.cubic-raised.ensures.small, c.added.ensures.small);
  at_most = omega (arith, ints, c.cubic-raised.ensures.small, c.added.ensures.small);
}
