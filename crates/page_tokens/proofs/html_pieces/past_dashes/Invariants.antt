use Rattle.std.proofs.Common.{◌≡◌, length}
use Rattle.page_tokens.specs.HtmlReading.{after_dashes}
use Rattle.page_tokens.proofs.html_pieces.past_dashes.Given as goal

-- what is left has the first `--` of all
abbrev pub invariant-seeking : goal.invariant-seeking
invariant-seeking l = after_dashes l.rest ≡ after_dashes l.bytes

abbrev pub decreases-seeking : goal.decreases-seeking
decreases-seeking l = length l.rest
