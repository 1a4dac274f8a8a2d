-- The floor and the ceiling hold the fraction.
use Rattle.std.proofs.Common.{rules}
use Rattle.fix_span.proofs.HoldsLemmas.{Holds-frac}
use Rattle.fix_span.proofs.span.Span.of_frac.Goals as goal

pub returns-clause-ends : goal.returns-clause-ends
returns-clause-ends g c = search rules

pub returns-clause-encloses : goal.returns-clause-encloses
returns-clause-encloses g c p h = Holds-frac g.row.F c.args.x _ p (returns-clause-ends g c) h
