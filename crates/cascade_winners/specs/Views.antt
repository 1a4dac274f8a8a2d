-- The code's own types as the definitions have them.
use Rattle.std.specs.Prelude.{List, Option, None, option_and_then, option_map, slice_get}
use Rattle.page_model.specs.Cascade as definition
use Rattle.page_model.specs.Cascade.{bit}
use Rattle.cascade_winners.specs.declared.weights.Weight.{Weight}
use Rattle.cascade_winners.specs.declared.winners.Candidate.{Candidate}
use Rattle.cascade_winners.specs.declared.winners.Winners.{Winners}

abbrev pub weight_as : Weight → definition.Weight
weight_as w = record {
  important = bit w.important;
  inline = bit w.inline;
  ids = w.ids;
  classes = w.classes;
  types = bit w.has_tag;
  place = w.place;
}

abbrev pub candidate_as : Candidate → definition.Candidate
candidate_as c = record { weight = weight_as c.weight; longhand = c.longhand.now }

abbrev pub no_winners : definition.Winners
no_winners property = None

abbrev pub slots_as : List (Option Candidate) → definition.Winners
slots_as slots property = option_and_then (λ (slot : Option Candidate). option_map candidate_as slot) (slice_get slots property)

abbrev pub winners_as : Winners → definition.Winners
winners_as w = slots_as w.slots
