use Rattle.css_declarations.proofs.InlineLemmas.{one_inline}
use Rattle.css_declarations.proofs.laws.one_inline_reading.Goals as goal

pub returns : goal.returns
returns c = one_inline
