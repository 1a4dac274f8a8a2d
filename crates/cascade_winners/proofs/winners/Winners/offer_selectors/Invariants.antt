use Rattle.std.proofs.Common.{◌≡◌, drop, fold}
use Rattle.std.specs.Prelude.{flat_map}
use Rattle.cascade_winners.specs.Offers.{of_selector, offered}
use Rattle.cascade_winners.specs.Views.{winners_as}
use Rattle.cascade_winners.proofs.winners.Winners.offer_selectors.Given as goal

-- the selectors that are left make of the winners so far what all make
abbrev pub invariant-selectors : goal.invariant-selectors
invariant-selectors l =
    fold offered (winners_as l.self) (flat_map (of_selector l.element l.decls) (drop l.selector-index l.selectors))
    ≡ fold offered (winners_as l.initial.self) (flat_map (of_selector l.element l.decls) l.selectors)
