-- The rate is at most 240.
use Rattle.std.proofs.Common.{◌≡◌, ℕ, ◌*◌, ◌≤◌, arith, mul-le-mul_left}
use Rattle.period_frames.proofs.settling.ticks.Goals as goal

slow_ticks : (milliseconds num den a b : ℕ) → a ≡ milliseconds → b ≡ num → num ≤ 240 * den → 1000 * a * b ≤ 240000 * milliseconds * den
slow_ticks milliseconds num den a b e f slow =
    rw (e, f) (let more = mul-le-mul_left (1000 * milliseconds) slow in omega arith)

pub returns-clause-slow : goal.returns-clause-slow
returns-clause-slow c =
    slow_ticks c.args.milliseconds c.args.setup.now.num c.args.setup.now.den c.from.result c.from-2.result (cc) (cc) c.num.ensures.slow
