use Rattle.std.proofs.Common.{◌≡◌, ◌∙◌, ◌-◌, length, length-set, arith}
use Rattle.tint_changes.specs.Counting.{MakesAt}
use Rattle.tint_changes.proofs.CountLemmas.{counts-more}
use Rattle.tint_changes.proofs.counting.Counts.of.Goals as goal

pub loop-place-preserved : goal.loop-place-preserved
loop-place-preserved c =
    let room_first : length c.loop-place.counts.first ≡ 241 = c.loop-place.invariant.2 in
    let room_second : length c.loop-place.counts.second ≡ 241 = c.loop-place.invariant.3 in (
      counts-more (MakesAt c.args.opposing.first c.args.tints.now) (MakesAt c.args.opposing.second c.args.tints.now)
          (c.loop-place.place - 1) c.loop-place.place (length c.args.tints.now) c.count_from-first.result c.loop-place.counts.first
          (omega arith) (omega arith) c.count_from-first.ensures c.loop-place.invariant.0,
      counts-more (MakesAt c.args.opposing.second c.args.tints.now) (MakesAt c.args.opposing.first c.args.tints.now)
          (c.loop-place.place - 1) c.loop-place.place (length c.args.tints.now) c.count_from-second.result c.loop-place.counts.second
          (omega arith) (omega arith) (rw (c.turned.ensures.first, c.turned.ensures.second) at c.count_from-second.ensures)
          c.loop-place.invariant.1,
      length-set c.loop-place.counts.first (c.loop-place.place - 1) c.count_from-first.result ∙ room_first,
      length-set c.loop-place.counts.second (c.loop-place.place - 1) c.count_from-second.result ∙ room_second,
    )
