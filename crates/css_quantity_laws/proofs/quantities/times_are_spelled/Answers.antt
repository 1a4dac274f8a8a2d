use Rattle.std.proofs.Common.{false}
use Rattle.css_quantities.specs.Quantities.{duration_of, time_of}
use Rattle.css_quantity_laws.specs.SpelledQuantities.{PastTime, SpellsDuration, SpellsTime}
use Rattle.css_quantity_laws.proofs.QuantityLemmas.{duration_reads, time_reads}
use Rattle.css_word_laws.proofs.Readings.{agrees}
use Rattle.css_quantity_laws.proofs.quantities.times_are_spelled.Goals as goal

pub returns-clause-times : goal.returns-clause-times
returns-clause-times c = λ signed. agrees (time_of signed) (SpellsTime signed) (PastTime signed) (time_reads signed)

pub returns-clause-durations : goal.returns-clause-durations
returns-clause-durations c = agrees duration_of SpellsDuration (PastTime false) duration_reads
