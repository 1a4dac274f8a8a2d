use Rattle.css_words.specs.Words.{words}
use Rattle.css_words.proofs.GivenLemmas.{on_ok}
use Rattle.page_model.specs.ValidScene.{IsColour}
use Rattle.css_colours.proofs.ValidColours.{colour_is}
use Rattle.css_colours.proofs.colours.colour.Goals as goal

pub returns-clause-valid : goal.returns-clause-valid
returns-clause-valid c = on_ok IsColour _ _ c.spelled.ensures (colour_is (words c.args.text.now c.args.tokens.now))
