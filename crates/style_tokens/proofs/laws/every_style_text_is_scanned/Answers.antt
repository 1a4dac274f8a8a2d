use Rattle.style_tokens.proofs.CssJudged.{text_scanned}
use Rattle.style_tokens.proofs.laws.every_style_text_is_scanned.Goals as goal

pub returns : goal.returns
returns c = text_scanned
