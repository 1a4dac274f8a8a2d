-- The table of the code is the table of the specification, entry by entry.
use Rattle.css_values.specs.PropertyNames.{property_names}
use Rattle.css_values.proofs.tables.property.Goals as goal

pub returns : goal.returns
unfolding property_names
returns c = c.find.ensures
