use Rattle.std.proofs.Common.{◌≡◌, map, drop, fold}
use Rattle.page_model.specs.Cascade.{by_attribute}
use Rattle.cascade_winners.specs.Offers.{offered}
use Rattle.cascade_winners.specs.Views.{winners_as}
use Rattle.cascade_winners.proofs.winners.Winners.offer_attribute.Given as goal

-- the declarations that are left make of the winners so far what all make
abbrev pub invariant-decls : goal.invariant-decls
invariant-decls l =
    fold offered (winners_as l.self) (map by_attribute (drop l.decl-index l.decls))
    ≡ fold offered (winners_as l.initial.self) (map by_attribute l.decls)
