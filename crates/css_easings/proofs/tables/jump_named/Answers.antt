-- The table of the code is the table of the specification, entry by entry.
use Rattle.css_easings.specs.EasingWords.{jump_words}
use Rattle.css_easings.proofs.tables.jump_named.Goals as goal

pub returns : goal.returns
unfolding jump_words
returns c = c.find.ensures
