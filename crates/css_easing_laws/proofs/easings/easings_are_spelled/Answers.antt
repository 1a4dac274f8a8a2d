use Rattle.css_easings.specs.Easings.{easing_of}
use Rattle.css_easing_laws.specs.SpelledEasings.{PastEasing, SpellsEasing}
use Rattle.css_easing_laws.proofs.EasingReadings.{easing_reads}
use Rattle.css_word_laws.proofs.Readings.{agrees}
use Rattle.css_easing_laws.proofs.easings.easings_are_spelled.Goals as goal

pub returns : goal.returns
returns c = agrees easing_of SpellsEasing PastEasing easing_reads
