-- The table of the code is the table of the specification, entry by entry.
use Rattle.css_easings.specs.EasingWords.{easing_words}
use Rattle.css_easings.proofs.tables.easing_named.Goals as goal

pub returns : goal.returns
unfolding easing_words
returns c = c.find.ensures
