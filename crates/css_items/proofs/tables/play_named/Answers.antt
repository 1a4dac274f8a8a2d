-- The table of the code is the table of the specification, entry by entry.
use Rattle.css_items.specs.ItemWords.{play_words}
use Rattle.css_items.proofs.tables.play_named.Goals as goal

pub returns : goal.returns
unfolding play_words
returns c = c.find.ensures
