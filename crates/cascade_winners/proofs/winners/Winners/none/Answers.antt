use Rattle.cascade_winners.specs.Views.{candidate_as}
use Rattle.cascade_winners.proofs.SlotLemmas.{none_at}
use Rattle.cascade_winners.proofs.winners.Winners.none.Goals as goal

pub returns : goal.returns
returns c j property = none_at candidate_as 19 property j
