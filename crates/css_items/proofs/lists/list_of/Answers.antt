use Rattle.std.proofs.Common.{◌∙◌, ◌∷◌, ap}
use Rattle.std.specs.Option.{option_copied}
use Rattle.css_words.specs.Words.{words}
use Rattle.css_items.specs.ListReading.{later}
use Rattle.css_items.proofs.ListLemmas.{last_item}
use Rattle.css_items.proofs.lists.list_of.Goals as goal

pub returns-in-None : goal.returns-in-None
returns-in-None g c =
    let text = c.args.text.now in
    let piece = words text c.next_piece-piece.result.item.now in
    last_item g.I.Item.item (words text c.items.rest.now) piece c.items.gathered.items c.add.new.self.items c.items.gathered.over c.add.new.self.over
    c.read.result c.finish.result _ (c.next_piece-piece.ensures.pieces ∙ ap (λ r. piece ∷ later text (option_copied r)) c.in-None.is)
    c.read.ensures c.in_ok-add.ensures c.finish.ensures c.items.invariant
