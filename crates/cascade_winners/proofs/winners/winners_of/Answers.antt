use Rattle.cascade_winners.specs.Views.{winners_as}
use Rattle.cascade_winners.proofs.OriginLemmas.{only_winners, winning_values}
use Rattle.cascade_winners.proofs.winners.winners_of.Goals as goal

pub returns-clause-only : goal.returns-clause-only
returns-clause-only c other are = only_winners c.args.rules.now c.args.element.now c.args.inline.now c.requires.rules c.requires.inline other (winners_as c.best_of.result) are c.best_of.ensures

pub returns-clause-values : goal.returns-clause-values
returns-clause-values c = winning_values c.args.rules.now c.args.element.now c.args.inline.now c.requires.rules c.requires.inline (winners_as c.best_of.result) c.best_of.ensures
