-- The table of the code is the table of the specification, entry by entry.
use Rattle.css_colours.specs.ColourNames.{colour_names}
use Rattle.css_colours.proofs.tables.colour_named.Goals as goal

pub returns : goal.returns
unfolding colour_names
returns c = c.find.ensures
