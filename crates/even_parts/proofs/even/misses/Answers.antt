-- The places begin where the box has ended.
use Rattle.std.proofs.Common.{arith, inr}
use Rattle.std.proofs.lemmas.Int.{ints}
use Rattle.even_parts.proofs.even.misses.Goals as goal

pub returns : goal.returns
returns c so = inr (omega (arith, ints, so, c.end_of-2.ensures, c.from-4.ensures))
