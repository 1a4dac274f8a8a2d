-- The table of the code is the table of the specification, entry by entry.
use Rattle.css_items.specs.ItemWords.{visibility_words}
use Rattle.css_items.proofs.tables.visibility_named.Goals as goal

pub returns : goal.returns
unfolding visibility_words
returns c = c.find.ensures
