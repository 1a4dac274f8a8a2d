-- By the lemma, with a divisor that isn't 0.
use Rattle.period_frames.proofs.MultipleLemmas.{least-multiple, some-divisor}
use Rattle.period_frames.proofs.multiples.least_multiple.Goals as goal

pub nonzero_div-result : goal.nonzero_div-result
nonzero_div-result c = some-divisor c.args.b c.greatest_divisor.result c.requires.other_some c.greatest_divisor.ensures.greatest.0

pub returns : goal.returns
returns c =
    least-multiple c.args.a c.args.b c.greatest_divisor.result c.requires.some c.requires.other_some
    c.greatest_divisor.ensures.greatest c.greatest_divisor.ensures.times
