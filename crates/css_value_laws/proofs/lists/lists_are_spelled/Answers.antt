use Rattle.std.proofs.Common.{false, true}
use Rattle.css_easings.specs.Easings.{easing_of}
use Rattle.css_items.specs.ItemWords.{direction_words, fill_words, play_words}
use Rattle.css_items.specs.Lists.{list_of}
use Rattle.css_items.specs.Names.{keyword_of, name_of}
use Rattle.css_quantities.specs.Quantities.{count_of, duration_of, time_of}
use Rattle.css_easing_laws.specs.SpelledEasings.{PastEasing, SpellsEasing}
use Rattle.css_value_laws.specs.SpelledLists.{IsList, IsPastList}
use Rattle.css_quantity_laws.specs.SpelledQuantities.{PastCount, PastTime, SpellsCount, SpellsDuration, SpellsTime}
use Rattle.css_word_laws.specs.SpelledWords.{SpellsKeyword}
use Rattle.css_value_laws.specs.SpelledNames.{SpellsName}
use Rattle.css_word_laws.specs.ValueLaws.{NonePast}
use Rattle.css_value_laws.proofs.ClosingLemmas.{count_closes, duration_closes, easing_closes, keyword_closes, name_closes, time_closes}
use Rattle.css_easing_laws.proofs.EasingReadings.{easing_reads}
use Rattle.css_value_laws.proofs.ListLemmas.{list_reads}
use Rattle.css_quantity_laws.proofs.QuantityLemmas.{count_reads, duration_reads, time_reads}
use Rattle.css_word_laws.proofs.Readings.{agrees}
use Rattle.css_value_laws.proofs.TableLemmas.{directions_differ, fills_differ, plays_differ}
use Rattle.css_value_laws.proofs.NameLemmas.{keyword_reads, name_reads}
use Rattle.css_value_laws.proofs.lists.lists_are_spelled.Goals as goal

pub returns-clause-names : goal.returns-clause-names
returns-clause-names c = agrees (list_of name_of) (IsList SpellsName) (IsPastList SpellsName NonePast) (list_reads name_of SpellsName NonePast name_reads name_closes)

pub returns-clause-durations : goal.returns-clause-durations
returns-clause-durations c = agrees (list_of duration_of) (IsList SpellsDuration) (IsPastList SpellsDuration (PastTime false)) (list_reads duration_of SpellsDuration (PastTime false) duration_reads duration_closes)

pub returns-clause-delays : goal.returns-clause-delays
returns-clause-delays c = agrees (list_of (time_of true)) (IsList (SpellsTime true)) (IsPastList (SpellsTime true) (PastTime true)) (list_reads (time_of true) (SpellsTime true) (PastTime true) (time_reads true) (time_closes true))

pub returns-clause-easings : goal.returns-clause-easings
returns-clause-easings c = agrees (list_of easing_of) (IsList SpellsEasing) (IsPastList SpellsEasing PastEasing) (list_reads easing_of SpellsEasing PastEasing easing_reads easing_closes)

pub returns-clause-counts : goal.returns-clause-counts
returns-clause-counts c = agrees (list_of count_of) (IsList SpellsCount) (IsPastList SpellsCount PastCount) (list_reads count_of SpellsCount PastCount count_reads count_closes)

pub returns-clause-directions : goal.returns-clause-directions
returns-clause-directions c = agrees (list_of (keyword_of direction_words)) (IsList (SpellsKeyword direction_words)) (IsPastList (SpellsKeyword direction_words) NonePast) (list_reads (keyword_of direction_words) (SpellsKeyword direction_words) NonePast (keyword_reads direction_words directions_differ) (keyword_closes direction_words))

pub returns-clause-fills : goal.returns-clause-fills
returns-clause-fills c = agrees (list_of (keyword_of fill_words)) (IsList (SpellsKeyword fill_words)) (IsPastList (SpellsKeyword fill_words) NonePast) (list_reads (keyword_of fill_words) (SpellsKeyword fill_words) NonePast (keyword_reads fill_words fills_differ) (keyword_closes fill_words))

pub returns-clause-plays : goal.returns-clause-plays
returns-clause-plays c = agrees (list_of (keyword_of play_words)) (IsList (SpellsKeyword play_words)) (IsPastList (SpellsKeyword play_words) NonePast) (list_reads (keyword_of play_words) (SpellsKeyword play_words) NonePast (keyword_reads play_words plays_differ) (keyword_closes play_words))
