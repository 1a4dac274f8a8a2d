use Rattle.css_word_laws.specs.ValueLaws.{NonePast}
use Rattle.css_quantities.specs.Quantities.{count_of, opacity_of, percentage_of, z_index_of}
use Rattle.css_quantity_laws.specs.SpelledQuantities.{PastCount, PastZIndex, SpellsCount, SpellsOpacity, SpellsPercentage, SpellsZIndex}
use Rattle.css_quantity_laws.proofs.QuantityLemmas.{count_reads, opacity_reads, percentage_reads, z_index_reads}
use Rattle.css_word_laws.proofs.Readings.{agrees}
use Rattle.css_quantity_laws.proofs.quantities.plain_numbers_are_spelled.Goals as goal

pub returns-clause-percentages : goal.returns-clause-percentages
returns-clause-percentages c = agrees percentage_of SpellsPercentage NonePast percentage_reads

pub returns-clause-opacities : goal.returns-clause-opacities
returns-clause-opacities c = agrees opacity_of SpellsOpacity NonePast opacity_reads

pub returns-clause-z_indices : goal.returns-clause-z_indices
returns-clause-z_indices c = agrees z_index_of SpellsZIndex PastZIndex z_index_reads

pub returns-clause-counts : goal.returns-clause-counts
returns-clause-counts c = agrees count_of SpellsCount PastCount count_reads
