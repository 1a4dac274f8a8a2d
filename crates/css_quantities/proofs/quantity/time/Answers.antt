use Rattle.std.proofs.Common.{ap, ◌∙◌, pos}
use Rattle.page_model.specs.ValidScene.{IsBetween}
use Rattle.css_quantities.specs.Quantities.{time_of}
use Rattle.css_quantities.specs.ValidQuantities.{IsTime}
use Rattle.css_words.specs.Words.{words}
use Rattle.css_words.proofs.GivenLemmas.{on_ok}
use Rattle.css_quantities.proofs.ValidNumbers.{time_is, early_is}
use Rattle.css_quantities.proofs.quantity.time.Goals as goal

pub returns-clause-valid : goal.returns-clause-valid
returns-clause-valid c = on_ok IsTime _ _ c.signed_time.ensures (time_is c.args.signed (words c.args.text.now c.args.tokens.now))

pub returns-clause-early : goal.returns-clause-early
returns-clause-early c = λ unsigned.
    on_ok (λ v. IsBetween (pos 0) (pos 100000) v) _ _ (c.signed_time.ensures ∙ ap (λ s. time_of s (words c.args.text.now c.args.tokens.now)) unsigned)
    (early_is (words c.args.text.now c.args.tokens.now))
