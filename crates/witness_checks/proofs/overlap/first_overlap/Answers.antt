-- One more part that is apart from those behind it, and the first that isn't.
use Rattle.std.proofs.Common.{arith}
use Rattle.witness_checks.proofs.OverlapLemmas.{apart-all, apart-more, first-overlap}
use Rattle.witness_checks.proofs.overlap.first_overlap.Goals as goal

pub returns-in-Some : goal.returns-in-Some
returns-in-Some c = first-overlap c.args.parts.now c.loop-first.first c.in-Some.second c.loop-first.invariant c.in-Some.ensures

pub loop-first-preserved : goal.loop-first-preserved
loop-first-preserved c = apart-more c.args.parts.now c.loop-first.first c.loop-first.invariant c.in_default.ensures

pub returns : goal.returns
returns c = apart-all c.args.parts.now c.loop-first.first (omega arith) c.loop-first.invariant
