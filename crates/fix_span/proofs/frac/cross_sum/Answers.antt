-- The sum of wrapped products, wrapped, is the sum wrapped, which fits.
use Rattle.std.proofs.Common.{rules}
use Rattle.std.specs.Int.{w128}
use Rattle.std.proofs.lemmas.Int.{wraps, wrapping_add-bits}
use Rattle.fix_span.proofs.frac.cross_sum.Goals as goal

pub returns : goal.returns
returns c = search (rules, wraps, wrapping_add-bits w128)
