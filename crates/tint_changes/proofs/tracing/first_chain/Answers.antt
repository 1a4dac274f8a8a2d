-- The earlier of the first runs with the one change first and with the other is the first chain.
use Rattle.tint_changes.specs.Counting.{Makes, MakesAt}
use Rattle.tint_changes.specs.Runs.{IsRun}
use Rattle.tint_changes.proofs.ChainLemmas.{first-chain}
use Rattle.tint_changes.proofs.RunLemmas.{first-earlier}
use Rattle.tint_changes.proofs.tracing.first_chain.Goals as goal

pub returns : goal.returns
returns c =
    first-chain (Makes c.args.opposing.first) (Makes c.args.opposing.second) c.args.tints.now c.earlier.result
    (first-earlier (IsRun (MakesAt c.args.opposing.first c.args.tints.now) (MakesAt c.args.opposing.second c.args.tints.now))
    (IsRun (MakesAt c.args.opposing.second c.args.tints.now) (MakesAt c.args.opposing.first c.args.tints.now)) c.first_run-up.result
    c.first_run-down.result c.earlier.result c.first_run-up.ensures
    (rw (c.turned.ensures.first, c.turned.ensures.second) at c.first_run-down.ensures) c.earlier.ensures)
