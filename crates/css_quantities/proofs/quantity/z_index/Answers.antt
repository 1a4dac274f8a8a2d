use Rattle.css_quantities.specs.ValidQuantities.{IsLevel}
use Rattle.css_words.specs.Words.{words}
use Rattle.css_words.proofs.GivenLemmas.{on_ok}
use Rattle.css_quantities.proofs.ValidNumbers.{level_is}
use Rattle.css_quantities.proofs.quantity.z_index.Goals as goal

pub returns-clause-valid : goal.returns-clause-valid
returns-clause-valid c = on_ok IsLevel _ _ c.level.ensures (level_is (words c.args.text.now c.args.tokens.now))
