use Rattle.page_tokens.proofs.HtmlOutcome.{every_scanned}
use Rattle.page_tokens.proofs.html_laws.every_text_is_scanned.Goals as goal

pub returns : goal.returns
returns c = every_scanned
