use Rattle.style_tokens.proofs.CssUnique.{scan_gives, scan_tells}
use Rattle.style_tokens.proofs.css.scan_css.Goals as goal

pub returns-clause-given : goal.returns-clause-given
returns-clause-given c = λ tokens are. scan_gives _ _ c.tokens_of.result tokens c.tokens_of.ensures are

pub returns-clause-told : goal.returns-clause-told
returns-clause-told c = λ place bad. scan_tells _ _ c.tokens_of.result place c.tokens_of.ensures bad
