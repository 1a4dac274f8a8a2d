use Rattle.std.proofs.Common.{◌≡◌, sym, subst, fold}
use Rattle.std.specs.Prelude.{flat_map, map}
use Rattle.std.proofs.lemmas.List.Sums.{fold-append}
use Rattle.page_model.specs.Cascade.{by_attribute, candidates_of, of_rule}
use Rattle.cascade_winners.specs.Offers.{offered}
use Rattle.cascade_winners.specs.Views.{no_winners, winners_as}
use Rattle.cascade_winners.proofs.WinningLemmas.{AreBest, fold_wins}
use Rattle.cascade_winners.proofs.winners.best_of.Goals as goal

-- what is left after all were offered
pub returns : goal.returns
returns c =
    let rules = c.args.rules.now in
    let element = c.args.element.now in
    let inline = c.args.inline.now in
    let ruled = flat_map (of_rule element) rules in
    let own = map by_attribute inline in
    let made : winners_as c.offer_attribute.new.self ≡ fold offered no_winners (candidates_of rules element inline) =
    rw (c.offer_attribute.ensures, c.offer_rules.ensures, c.none-winners.ensures, c.as_slice.ensures, c.as_slice-2.ensures) (sym (fold-append offered no_winners ruled own)) in
    subst (AreBest (candidates_of rules element inline)) (sym made) (fold_wins (candidates_of rules element inline))
