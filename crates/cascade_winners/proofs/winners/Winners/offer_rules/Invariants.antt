use Rattle.std.proofs.Common.{◌≡◌, drop, fold}
use Rattle.std.specs.Prelude.{flat_map}
use Rattle.page_model.specs.Cascade.{of_rule}
use Rattle.cascade_winners.specs.Offers.{offered}
use Rattle.cascade_winners.specs.Views.{winners_as}
use Rattle.cascade_winners.proofs.winners.Winners.offer_rules.Given as goal

-- the rules that are left make of the winners so far what all make
abbrev pub invariant-rules : goal.invariant-rules
invariant-rules l =
    fold offered (winners_as l.self) (flat_map (of_rule l.element) (drop l.rule-index l.rules))
    ≡ fold offered (winners_as l.initial.self) (flat_map (of_rule l.element) l.rules)
