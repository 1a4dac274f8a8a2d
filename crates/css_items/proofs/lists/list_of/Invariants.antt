use Rattle.std.proofs.Common.{◌≡◌, map, false, length}
use Rattle.css_items.specs.ListReading.{resumed}
use Rattle.css_items.specs.Lists.{gather, list_of, pieces}
use Rattle.css_words.specs.Words.{words}
use Rattle.css_items.proofs.lists.list_of.Given as goal

abbrev pub invariant-items : goal.invariant-items
invariant-items g l =
    resumed l.gathered.items l.gathered.over (gather (map g.I.Item.item (pieces false (words l.text l.rest)))) ≡ list_of g.I.Item.item (words l.text l.tokens)

abbrev pub decreases-items : goal.decreases-items
decreases-items g l = length l.rest
