-- Parts that have halved so often.
use Rattle.fix_span.proofs.ScaleLemmas.{AreParts}
use Rattle.fix_span.proofs.scale.share_of.Given as goal

abbrev pub invariant-halving : goal.invariant-halving
invariant-halving l = AreParts l.num l.den l.counter l.share.parts l.share.rest
