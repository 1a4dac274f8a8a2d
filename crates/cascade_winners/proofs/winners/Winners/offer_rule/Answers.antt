use Rattle.std.proofs.Common.{ap, fold}
use Rattle.std.specs.Prelude.{map}
use Rattle.page_model.specs.Cascade.{by_selector, matches}
use Rattle.cascade_winners.specs.Offers.{offered}
use Rattle.cascade_winners.specs.Views.{winners_as}
use Rattle.cascade_winners.proofs.FoldLemmas.{flat_map-filter}
use Rattle.cascade_winners.proofs.winners.Winners.offer_rule.Goals as goal

pub returns : goal.returns
returns c = rw (c.offer_selectors.ensures, c.as_slice.ensures, c.as_slice-2.ensures) (ap (fold offered (winners_as c.args.self.now)) (flat_map-filter (λ selector. map (λ decl. by_selector decl selector) c.args.rule.now.decls) (λ selector. matches selector c.args.element.now) c.args.rule.now.selectors))
