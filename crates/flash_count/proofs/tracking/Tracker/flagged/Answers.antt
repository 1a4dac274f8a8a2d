use Rattle.std.proofs.Common.{subst}
use Rattle.std.specs.Prelude.{◌↔◌, IsTrue}
use Rattle.flash_count.specs.Chains.{HasPossibleChain, HasSureChain}
use Rattle.flash_count.specs.Tracked.{Tracked}
use Rattle.flash_count.proofs.tracking.Tracker.flagged.Goals as goal

pub returns-clause-possible : goal.returns-clause-possible
returns-clause-possible c =
    subst (λ (t : Tracked). IsTrue c.self.inside.flag.possible ↔ HasPossibleChain t.recent) c.self.view_is c.self.invariant.tells.possible

pub returns-clause-sure : goal.returns-clause-sure
returns-clause-sure c =
    subst (λ (t : Tracked). IsTrue c.self.inside.flag.sure ↔ HasSureChain t.recent) c.self.view_is c.self.invariant.tells.sure
