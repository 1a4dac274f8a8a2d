-- There is a horizon; where its period or the sum is too much, that one tells so.
use Rattle.std.proofs.Common.{arith}
use Rattle.period_frames.proofs.NeededLemmas.{horizon-known, more-by_period, more-by_sum}
use Rattle.period_frames.proofs.frames.horizon_of.Goals as goal

pub returns-in_err-period-clause-many : goal.returns-in_err-period-clause-many
returns-in_err-period-clause-many c setup anims rate known =
    let long = rw c.in_err-period.was at known.period in
    rw c.from_residual.ensures (more-by_period setup anims rate long)

pub returns-then-saturating_add-gt-MOST-clause-many : goal.returns-then-saturating_add-gt-MOST-clause-many
returns-then-saturating_add-gt-MOST-clause-many c setup anims rate known =
    let all = c.args.all in
    let period = c.in_ok-period.period in
    let is = horizon-known setup anims all period known c.in_ok-period.was in
    more-by_sum setup anims all.settled period is (omega (arith, c.saturating_add.ensures))

pub returns-clause-horizon : goal.returns-clause-horizon
returns-clause-horizon c setup anims known = horizon-known setup anims c.args.all c.in_ok-period.period known c.in_ok-period.was
