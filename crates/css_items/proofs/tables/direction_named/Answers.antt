-- The table of the code is the table of the specification, entry by entry.
use Rattle.css_items.specs.ItemWords.{direction_words}
use Rattle.css_items.proofs.tables.direction_named.Goals as goal

pub returns : goal.returns
unfolding direction_words
returns c = c.find.ensures
