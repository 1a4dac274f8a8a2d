use Rattle.std.proofs.Common.{◌≡◌, map, length}
use Rattle.css_words.specs.Keywords.{lookup}
use Rattle.css_words.proofs.keywords.find.Given as goal

abbrev pub invariant-finding : goal.invariant-finding
invariant-finding g l = lookup (map (λ k. (k.word.now, k.value)) l.rest) l.bytes ≡ lookup (map (λ k. (k.word.now, k.value)) l.table) l.bytes

abbrev pub decreases-finding : goal.decreases-finding
decreases-finding g l = length l.rest
