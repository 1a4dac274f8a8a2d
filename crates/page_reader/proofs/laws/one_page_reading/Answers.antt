use Rattle.page_reader.proofs.PageLemmas.{one_page, one_bad, page_is_not_bad}
use Rattle.page_reader.proofs.laws.one_page_reading.Goals as goal

pub returns-clause-page : goal.returns-clause-page
returns-clause-page c = one_page

pub returns-clause-place : goal.returns-clause-place
returns-clause-place c = one_bad

pub returns-clause-apart : goal.returns-clause-apart
returns-clause-apart c = page_is_not_bad
