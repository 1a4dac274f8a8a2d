-- Two states are the same where each of their parts is.
use Rattle.std.proofs.Common.{ap, rules}
use Rattle.paint_blend.proofs.KeptLemmas.{state-same}
use Rattle.paint_blend.proofs.kept.is_same.Goals as goal

pub returns : goal.returns
returns c = (
  λ so.
      state-same c.args.first.now c.args.second.now (c.same_colour.ensures.0 (search rules)) (c.same_place.ensures.0 (search rules)) (c.shown_alike.ensures.0 so),
  λ same. c.shown_alike.ensures.1 (ap (λ state. state.shown) same),
)
