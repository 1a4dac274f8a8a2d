use Rattle.page_reader.proofs.PageOutcome.{every_judged}
use Rattle.page_reader.proofs.laws.every_text_is_a_page_or_not.Goals as goal

pub returns : goal.returns
returns c = every_judged
