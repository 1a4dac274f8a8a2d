use Rattle.std.proofs.Common.{◌≡◌, map, take}
use Rattle.page_tokens.specs.HtmlShown.{shown_word}
use Rattle.page_tokens.specs.HtmlText.{token_of}
use Rattle.page_tokens.proofs.html_scan.scan_html.Given as goal

-- the tokens of the words so far
abbrev pub invariant-telling : goal.invariant-telling
invariant-telling l = l.tokens ≡ map token_of (map shown_word (take l.word-index l.word-items))
