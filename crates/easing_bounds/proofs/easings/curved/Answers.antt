-- An input that isn't strictly between 0 and 1 is one of them.
use Rattle.std.proofs.Common.{arith, ◌≡◌, false, sym, ◌∙◌}
use Rattle.std.proofs.lemmas.Int.{ints}
use Rattle.page_model.specs.Enclosure.{is_inner}
use Rattle.fix_span.specs.Frac.{fraction_of}
use Rattle.easing_bounds.proofs.ToldLemmas.{told-end}
use Rattle.easing_bounds.proofs.easings.curved.Goals as goal

pub returns-else-is_inner-clause-told : goal.returns-else-is_inner-clause-told
returns-else-is_inner-clause-told c =
    let positive = c.requires.share.positive in
    let least = c.requires.share.at_least_zero in
    let most = c.requires.share.at_most_one in
    let end : is_inner (fraction_of c.args.x) ≡ false = sym c.is_inner.ensures ∙ c.if-is_inner.false in
    told-end c.args.x1 c.args.y1 c.args.x2 c.args.y2 (fraction_of c.args.x) (omega (arith, ints, positive, least, most)) (omega (arith, ints, positive)) end
