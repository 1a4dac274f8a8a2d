use Rattle.tint_changes.specs.Counting.{MakesAt}
use Rattle.tint_changes.proofs.CountLemmas.{count_before-raised}
use Rattle.tint_changes.proofs.counting.counted.Goals as goal

pub returns : goal.returns
returns c =
    count_before-raised (MakesAt c.args.opposing.first c.args.tints.now) (MakesAt c.args.opposing.second c.args.tints.now)
    c.args.place c.args.later c.args.count c.args.after c.min.result c.requires.place c.requires.count c.requires.after
    c.if-after-count.false (c.is_made_at.ensures.0 c.if-not-is_made_at.false) c.min.ensures
