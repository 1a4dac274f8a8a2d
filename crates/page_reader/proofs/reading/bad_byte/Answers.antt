use Rattle.page_reader.proofs.PageLemmas.{is_not_utf8}
use Rattle.page_reader.proofs.reading.bad_byte.Goals as goal

-- they cease to be UTF-8
pub returns-in-Some-clause-bad : goal.returns-in-Some-clause-bad
returns-in-Some-clause-bad c = is_not_utf8 c.args.text.now c.in-Some.at c.in-Some.ensures
