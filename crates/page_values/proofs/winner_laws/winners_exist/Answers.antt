-- By the order of weights.
use Rattle.page_model.specs.Cascade.{of_property, candidates_of}
use Rattle.page_values.proofs.WeightLemmas.{winner-exists, winner-weight}
use Rattle.page_values.proofs.winner_laws.winners_exist.Goals as goal

pub returns : goal.returns
returns c = record {
  winner = winner-exists;
  winners = λ rules element inline. (
    (λ property. (winner-exists (of_property property (candidates_of rules element inline))).0),
    (λ property. (winner-exists (of_property property (candidates_of rules element inline))).1),
  );
  one_weight = winner-weight;
}
