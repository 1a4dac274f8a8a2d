-- A fraction that is at most four lies in range.
use Rattle.std.proofs.Common.{rules, subst, sym}
use Rattle.red_chroma.specs.Enclosing.{IsCoordinate}
use Rattle.red_chroma.proofs.CoordinateLemmas.{enclosed-range}
use Rattle.red_chroma.proofs.coordinates.coordinate.Goals as goal

pub returns-clause-ends : goal.returns-clause-ends
returns-clause-ends c = search rules

pub returns-clause-range : goal.returns-clause-range
returns-clause-range c =
    subst (λ x. IsCoordinate x) (sym (returns-clause-ends c)) (enclosed-range c.args.num c.args.over c.requires.some c.requires.at_most)
