use Rattle.std.proofs.Common.{arith}
use Rattle.tint_changes.proofs.TraceLemmas.{leads-begins}
use Rattle.tint_changes.proofs.tracing.next_place.Goals as goal

pub unreachable-requires : goal.unreachable-requires
unreachable-requires c =
    let one = leads-begins c.args.opposing c.args.tints.now c.args.counts.now c.args.place c.args.more c.requires.counts
    c.requires.few c.requires.begins in
    absurd (c.loop-later.invariant one.0 one.1 (omega (arith, one.2)) one.3)
