use Rattle.std.proofs.Common.{length}
use Rattle.style_tokens.proofs.CssScan.{Continues}
use Rattle.style_tokens.proofs.css.tokens_of.Given as goal

abbrev pub invariant-scanning : goal.invariant-scanning
invariant-scanning l = Continues l.end l.bytes l.rest l.tokens

abbrev pub decreases-scanning : goal.decreases-scanning
decreases-scanning l = length l.rest
