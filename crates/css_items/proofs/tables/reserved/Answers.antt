-- The table of the code is the table of the specification, entry by entry.
use Rattle.css_items.specs.ItemWords.{reserved_words}
use Rattle.css_items.proofs.tables.reserved.Goals as goal

pub returns : goal.returns
unfolding reserved_words
returns c = c.find.ensures
