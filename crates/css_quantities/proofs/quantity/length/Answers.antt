use Rattle.std.proofs.Common.{ap, ◌∙◌}
use Rattle.page_model.specs.ValidScene.{IsPosition, IsExtent}
use Rattle.css_quantities.specs.Quantities.{length_of}
use Rattle.css_words.specs.Words.{words}
use Rattle.css_words.proofs.GivenLemmas.{on_ok}
use Rattle.css_quantities.proofs.ValidNumbers.{length_is, extent_is}
use Rattle.css_quantities.proofs.quantity.length.Goals as goal

pub returns-clause-position : goal.returns-clause-position
returns-clause-position c = on_ok IsPosition _ _ c.signed_length.ensures (length_is c.args.signed (words c.args.text.now c.args.tokens.now))

pub returns-clause-extent : goal.returns-clause-extent
returns-clause-extent c = λ unsigned.
    on_ok IsExtent _ _ (c.signed_length.ensures ∙ ap (λ s. length_of s (words c.args.text.now c.args.tokens.now)) unsigned)
    (extent_is (words c.args.text.now c.args.tokens.now))
