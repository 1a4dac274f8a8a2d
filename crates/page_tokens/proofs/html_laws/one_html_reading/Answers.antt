use Rattle.page_tokens.proofs.HtmlTextLemmas.{one_text, one_stuck, stuck_is_no_text}
use Rattle.page_tokens.proofs.html_laws.one_html_reading.Goals as goal

pub returns-clause-tokens : goal.returns-clause-tokens
returns-clause-tokens c = one_text

pub returns-clause-place : goal.returns-clause-place
returns-clause-place c = one_stuck

pub returns-clause-apart : goal.returns-clause-apart
returns-clause-apart c = stuck_is_no_text
