-- Where none is reached, there are stops exactly where one is ahead.
use Rattle.std.proofs.Common.{◌∙◌, sym, ◌≡◌, is_some, false}
use Rattle.keyframe_sets.proofs.IntervalLemmas.{has_side}
use Rattle.keyframe_sets.proofs.around.has_stops.Goals as goal

pub returns-else-is_some : goal.returns-else-is_some
returns-else-is_some c at stops h =
    let none : is_some c.args.around.reached ≡ false = sym c.is_some.ensures ∙ c.if-is_some.false in
    let side = has_side at stops c.args.around h in
    c.is_some-else-is_some.ensures ∙ (rw none at side)
