use Rattle.css_items.specs.ItemWords.{direction_words, fill_words, play_words, visibility_words}
use Rattle.css_items.specs.Names.{keyword_of}
use Rattle.css_word_laws.specs.SpelledWords.{SpellsKeyword}
use Rattle.css_word_laws.specs.ValueLaws.{NonePast}
use Rattle.css_word_laws.proofs.Readings.{agrees}
use Rattle.css_value_laws.proofs.TableLemmas.{directions_differ, fills_differ, plays_differ, visibilities_differ}
use Rattle.css_value_laws.proofs.NameLemmas.{keyword_reads}
use Rattle.css_value_laws.proofs.keywords.keywords_are_spelled.Goals as goal

pub returns-clause-directions : goal.returns-clause-directions
returns-clause-directions c = agrees (keyword_of direction_words) (SpellsKeyword direction_words) NonePast (keyword_reads direction_words directions_differ)

pub returns-clause-fills : goal.returns-clause-fills
returns-clause-fills c = agrees (keyword_of fill_words) (SpellsKeyword fill_words) NonePast (keyword_reads fill_words fills_differ)

pub returns-clause-plays : goal.returns-clause-plays
returns-clause-plays c = agrees (keyword_of play_words) (SpellsKeyword play_words) NonePast (keyword_reads play_words plays_differ)

pub returns-clause-visibilities : goal.returns-clause-visibilities
returns-clause-visibilities c = agrees (keyword_of visibility_words) (SpellsKeyword visibility_words) NonePast (keyword_reads visibility_words visibilities_differ)
