use Rattle.std.proofs.Common.{◌≤◌}
use Rattle.css_words.specs.Words.{words}
use Rattle.css_words.proofs.GivenLemmas.{on_ok}
use Rattle.css_quantities.proofs.ValidNumbers.{opacity_is}
use Rattle.css_quantities.proofs.quantity.opacity.Goals as goal

pub returns-clause-valid : goal.returns-clause-valid
returns-clause-valid c = on_ok (λ n. n ≤ 1000) _ _ c.held_opacity.ensures (opacity_is (words c.args.text.now c.args.tokens.now))
