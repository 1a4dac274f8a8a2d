use Rattle.std.proofs.Common.{arith, append-nil}
use Rattle.tint_changes.specs.Counting.{Makes, MakesAt}
use Rattle.tint_changes.proofs.ChainLemmas.{first-full, no_run-full}
use Rattle.tint_changes.proofs.RunLemmas.{first-run}
use Rattle.tint_changes.proofs.tracing.first_run.Goals as goal

pub returns-in_err-start : goal.returns-in_err-start
returns-in_err-start c =
    rw c.from_residual.ensures
    (no_run-full (Makes c.args.opposing.first) (Makes c.args.opposing.second) c.args.tints.now c.args.first.now c.requires.first
    c.in_err-start.ensures)

pub follow-requires-clause-begins : goal.follow-requires-clause-begins
follow-requires-clause-begins c =
    (c.requires.first c.in_ok-start.start (omega arith) c.in_ok-start.ensures.0).has 8 (omega (arith, c.in_ok-start.ensures.1))

pub returns : goal.returns
returns c =
    rw append-nil
    (first-run (MakesAt c.args.opposing.first c.args.tints.now) (MakesAt c.args.opposing.second c.args.tints.now)
    c.in_ok-start.start c.follow.new.places (omega arith)
    (first-full (Makes c.args.opposing.first) (Makes c.args.opposing.second) c.args.tints.now c.args.first.now c.in_ok-start.start
    c.requires.first c.in_ok-start.ensures)
    c.follow.ensures)
