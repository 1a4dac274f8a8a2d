-- The rectangle holds the most of the marks that were made.
use Rattle.apart_judge.proofs.MarkLemmas.{most-is}
use Rattle.apart_judge.proofs.marking.most_in.Goals as goal

pub returns : goal.returns
returns c =
    most-is c.args.parted.now c.args.flags.now c.xs.result.now c.ys.result.now c.mark.new.marks
    c.greatest.result.area c.greatest.result.x
    c.greatest.result.y c.xs.ensures.value c.ys.ensures.value
    (record { all = c.mark.ensures.all; each = c.mark.ensures.each }) c.greatest.ensures.has
    c.greatest.ensures.most
