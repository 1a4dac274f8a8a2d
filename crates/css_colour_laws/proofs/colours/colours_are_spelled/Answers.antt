use Rattle.css_colours.specs.Colours.{colour_of}
use Rattle.css_colour_laws.specs.SpelledColours.{SpellsColour}
use Rattle.css_word_laws.specs.ValueLaws.{NonePast}
use Rattle.css_colour_laws.proofs.ColourLemmas.{colour_reads}
use Rattle.css_word_laws.proofs.Readings.{agrees}
use Rattle.css_colour_laws.proofs.colours.colours_are_spelled.Goals as goal

pub returns : goal.returns
returns c = agrees colour_of SpellsColour NonePast colour_reads
