-- Both clauses hold of each entry of the table.
use Rattle.srgb_luma.proofs.TableLemmas.{linear_of-LINEAR, LINEAR_le}
use Rattle.srgb_luma.proofs.linear.lin.Goals as goal

pub returns-clause-value : goal.returns-clause-value
returns-clause-value c = linear_of-LINEAR c.args.c c.ranges.c.fits

pub returns-clause-at_most : goal.returns-clause-at_most
returns-clause-at_most c = LINEAR_le c.args.c c.ranges.c.fits
