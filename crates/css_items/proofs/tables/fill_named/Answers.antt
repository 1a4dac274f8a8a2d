-- The table of the code is the table of the specification, entry by entry.
use Rattle.css_items.specs.ItemWords.{fill_words}
use Rattle.css_items.proofs.tables.fill_named.Goals as goal

pub returns : goal.returns
unfolding fill_words
returns c = c.find.ensures
