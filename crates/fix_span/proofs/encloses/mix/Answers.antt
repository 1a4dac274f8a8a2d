-- The law of each operation, one after the other.
use Rattle.fix_span.proofs.encloses.mix.Goals as goal
use Rattle.fix_span.specs.Rational.{difference_of, product_of}

pub returns-clause-encloses : goal.returns-clause-encloses
returns-clause-encloses g c p q t from to at =
    let laws = g.met.E.Encloses in
    laws.sum_holds _ _ _ p (product_of (difference_of q p) t) c.add.ensures from
    (laws.product_holds _ _ _ (difference_of q p) t c.mul-part.ensures
    (laws.difference_holds _ _ _ q p c.sub-way.ensures to from) at)
