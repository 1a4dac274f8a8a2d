use Rattle.std.proofs.Common.{map, arith}
use Rattle.page_tokens.specs.HtmlShown.{shown_word}
use Rattle.page_reader.proofs.PageLemmas.{is_few}
use Rattle.page_reader.proofs.reading.with_few_boxes.Goals as goal

-- the page of these elements has few enough
pub returns-clause-ok : goal.returns-clause-ok
returns-clause-ok c =
    is_few c.args.text.now (map shown_word c.args.words.now) c.args.page.sheet c.args.page.elements c.requires.utf8 c.requires.no_control c.requires.tokens
    c.requires.page.0 c.requires.page.1 (omega (arith, c.len.ensures, c.if-len-gt-MOST_ELEMENTS.false))
