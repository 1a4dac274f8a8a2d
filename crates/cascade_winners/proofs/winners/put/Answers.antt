use Rattle.std.proofs.Common.{◌≡◌, ◌∙◌, ℕ, ap}
use Rattle.std.specs.Prelude.{Option, Some, option_map, slice_set, ◌==◌, if◌then◌else◌}
use Rattle.page_model.specs.Cascade.{Candidate, Winners}
use Rattle.cascade_winners.specs.Offers.{better}
use Rattle.cascade_winners.specs.Views.{candidate_as, slots_as}
use Rattle.cascade_winners.proofs.SlotLemmas.{held_read, held_set}
use Rattle.cascade_winners.proofs.winners.put.Goals as goal

pub returns : goal.returns
returns c =
    let slots = c.args.slots.now in
    let number = c.args.property in
    let made : Option Candidate → Candidate = λ best. better best (candidate_as c.args.candidate) in
    let best = held_read candidate_as slots number c.index-slots-property.result c.requires.within in
    let read = ap (λ slot. made (option_map candidate_as slot)) c.index-slots-property.is in
    let filled : ℕ → Winners = λ n property. if property == n then Some (made (slots_as slots property)) else slots_as slots property in
    let put : slots_as (slice_set slots number (Some c.better.result)) ≡ filled number
    = λ j property. held_set candidate_as made slots number c.better.result property c.requires.within (c.better.ensures ∙ read ∙ ap made best) j in
    put ∙ ap filled c.requires.property
