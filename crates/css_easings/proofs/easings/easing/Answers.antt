use Rattle.page_model.specs.ValidScene.{IsEasing}
use Rattle.css_words.specs.Words.{words}
use Rattle.css_words.proofs.GivenLemmas.{on_ok}
use Rattle.css_easings.proofs.ValidEasings.{easing_is}
use Rattle.css_easings.proofs.easings.easing.Goals as goal

pub returns-clause-valid : goal.returns-clause-valid
returns-clause-valid c = on_ok IsEasing _ _ c.any_easing.ensures (easing_is (words c.args.text.now c.args.tokens.now))
