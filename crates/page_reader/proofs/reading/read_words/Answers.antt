use Rattle.std.proofs.Common.{map}
use Rattle.page_tokens.specs.HtmlShown.{shown_word}
use Rattle.page_reader.proofs.PageLemmas.{has_no_page}
use Rattle.page_reader.proofs.reading.read_words.Goals as goal

-- they are no page's
pub returns-in-Err-clause-err : goal.returns-in-Err-clause-err
returns-in-Err-clause-err c =
    let ceases = rw c.in-Err.is at c.in_ok-found.ensures in
    has_no_page c.args.text.now (map shown_word c.args.words.now) c.in-Err.at c.requires.utf8 c.requires.no_control c.requires.tokens ceases
