-- The greater of both ends' sizes.
use Rattle.std.proofs.Common.{◌∙◌, ap, arith}
use Rattle.std.specs.Int.{w64}
use Rattle.std.proofs.lemmas.Int.{ints, to_z-of_z}
use Rattle.red_chroma.proofs.GapLemmas.{greatest_size-is}
use Rattle.red_chroma.proofs.distance.greatest_size.Goals as goal

pub returns-clause-value : goal.returns-clause-value
returns-clause-value c =
    let lo = rw (to_z-of_z w64 c.sub-way.result.lo (omega (arith, ints)), ap (λ way. way.lo) c.sub-way.ensures) at c.unsigned_abs.ensures.value in
    let hi = rw (to_z-of_z w64 c.sub-way.result.hi (omega (arith, ints)), ap (λ way. way.hi) c.sub-way.ensures) at c.unsigned_abs-2.ensures.value in
    c.max.ensures ∙ rw (lo, hi) (greatest_size-is c.args.x c.args.y c.requires.first c.requires.second)
