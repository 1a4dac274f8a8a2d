-- What is known of both is known of both together.
use Rattle.std.proofs.Common.{◌++◌}
use Rattle.period_frames.proofs.frames.Horizon.joined.Goals as goal

pub returns-clause-horizon : goal.returns-clause-horizon
returns-clause-horizon c setup some more one other =
    c.horizon_of.ensures.horizon setup (some ++ more)
    (c.joined.ensures setup some more (c.known.ensures setup some one) (c.known-2.ensures setup more other))

pub returns-clause-many : goal.returns-clause-many
returns-clause-many c setup some more rate one other =
    c.horizon_of.ensures.many setup (some ++ more) rate
    (c.joined.ensures setup some more (c.known.ensures setup some one) (c.known-2.ensures setup more other))
