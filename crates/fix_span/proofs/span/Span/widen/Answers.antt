-- Rounded outwards, the ends hold the same points.
use Rattle.std.proofs.Common.{rules}
use Rattle.fix_span.proofs.HoldsLemmas.{Holds-widened}
use Rattle.fix_span.proofs.span.Span.widen.Goals as goal

pub returns-clause-ends : goal.returns-clause-ends
returns-clause-ends g c = search rules

pub returns-clause-encloses : goal.returns-clause-encloses
returns-clause-encloses g c p h = Holds-widened g.row.F g.row.G c.args.self _ p (returns-clause-ends g c) h
