use Rattle.std.proofs.Common.{ap, take, length, ◌-◌, ◌∙◌}
use Rattle.css_words.proofs.DigitLemmas.{front_digits}
use Rattle.css_words.proofs.digits.split_digits.Goals as goal

pub returns-clause-digits : goal.returns-clause-digits
returns-clause-digits c = ap (λ t. take (length c.args.bytes.now - length t) c.args.bytes.now) c.skip_digits-rest.ensures.rest ∙ front_digits c.args.bytes.now
