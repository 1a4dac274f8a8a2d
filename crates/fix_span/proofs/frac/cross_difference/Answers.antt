-- The difference of wrapped products, wrapped, is the difference wrapped, which fits.
use Rattle.std.proofs.Common.{rules}
use Rattle.std.specs.Int.{w128}
use Rattle.std.proofs.lemmas.Int.{wraps, wrapping_sub-bits}
use Rattle.fix_span.proofs.frac.cross_difference.Goals as goal

pub returns : goal.returns
returns c = search (rules, wraps, wrapping_sub-bits w128)
