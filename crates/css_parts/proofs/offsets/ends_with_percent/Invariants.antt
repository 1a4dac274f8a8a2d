use Rattle.std.proofs.Common.{◌≡◌, length}
use Rattle.css_parts.specs.KeyframeGrammar.{ends_with_percent}
use Rattle.css_parts.proofs.offsets.ends_with_percent.Given as goal

abbrev pub invariant-seeking : goal.invariant-seeking
invariant-seeking l = ends_with_percent l.rest ≡ ends_with_percent l.bytes

abbrev pub decreases-seeking : goal.decreases-seeking
decreases-seeking l = length l.rest
