-- Where the possible flags are few, the sure ones are.
use Rattle.std.proofs.Common.{rules}
use Rattle.sweep.proofs.FewLemmas.{looked-few}
use Rattle.sweep.proofs.windows.look_at_flagged.Goals as goal

pub returns-then-are_few : goal.returns-then-are_few
returns-then-are_few c =
    let told = c.are_few.ensures.0 (cc) in
    let sure =
    looked-few c.args.cuts.now c.args.groups.now c.args.flags.now c.args.start c.args.found.sure c.args.found.possible
    c.look_for-possible.result c.requires.flags told.1 told.0 c.look_for-possible.ensures in
    record { sure = sure; possible = search rules }
