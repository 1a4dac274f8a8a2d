-- Where nothing is flagged, what was found stays.
use Rattle.sweep.specs.declared.windows.Sort.TheVariants.{Possible, Sure}
use Rattle.sweep.proofs.FewLemmas.{looked-none}
use Rattle.sweep.proofs.windows.look.Goals as goal

pub returns-then-are_unflagged-clause-sure : goal.returns-then-are_unflagged-clause-sure
returns-then-are_unflagged-clause-sure c =
    looked-none Sure c.args.cuts.now c.args.groups.now c.args.flags.now c.args.start c.args.found.sure
    c.requires.flags (c.are_unflagged.ensures.0 (cc))

pub returns-then-are_unflagged-clause-possible : goal.returns-then-are_unflagged-clause-possible
returns-then-are_unflagged-clause-possible c =
    looked-none Possible c.args.cuts.now c.args.groups.now c.args.flags.now c.args.start c.args.found.possible
    c.requires.flags (c.are_unflagged.ensures.0 (cc))
