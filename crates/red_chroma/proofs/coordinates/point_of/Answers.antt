-- Each colour's coordinates have a denominator, since black has white's.
use Rattle.std.proofs.Common.{rules, ◌<◌, subst, sym}
use Rattle.flash_laws.proofs.SureLemmas.{over-pos}
use Rattle.red_chroma.proofs.coordinates.point_of.Goals as goal

pub returns-clause-over : goal.returns-clause-over
returns-clause-over c = search rules

pub returns-clause-some : goal.returns-clause-some
returns-clause-some c = subst (λ n. 0 < n) (sym (returns-clause-over c)) (over-pos c.args.c)
