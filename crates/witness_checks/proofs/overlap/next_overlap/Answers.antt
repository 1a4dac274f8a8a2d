-- No part behind shares a pixel.
use Rattle.std.proofs.Common.{arith}
use Rattle.witness_checks.proofs.OverlapLemmas.{apart-wider}
use Rattle.witness_checks.proofs.overlap.next_overlap.Goals as goal

pub returns : goal.returns
returns c = apart-wider c.args.parts.now c.args.first c.loop-second.second (omega arith) c.loop-second.invariant
