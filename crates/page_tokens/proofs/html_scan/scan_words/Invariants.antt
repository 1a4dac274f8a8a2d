use Rattle.std.proofs.Common.{map}
use Rattle.page_tokens.specs.HtmlShown.{shown_word}
use Rattle.page_tokens.proofs.HtmlTextLemmas.{IsReadSo, work}
use Rattle.page_tokens.proofs.html_scan.scan_words.Given as goal

-- the pieces so far are those of the front of the text
abbrev pub invariant-reading : goal.invariant-reading
invariant-reading l = IsReadSo l.text (map shown_word l.words.items) l.stand l.bytes

abbrev pub decreases-reading : goal.decreases-reading
decreases-reading l = work l.stand l.bytes
