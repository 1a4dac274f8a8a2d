use Rattle.std.proofs.Common.{◌≡◌, ◌+◌, false, length}
use Rattle.css_items.specs.ListReading.{piece_length}
use Rattle.css_items.proofs.lists.piece_length.Given as goal

abbrev pub invariant-counting : goal.invariant-counting
invariant-counting l = (l.count + piece_length l.inside l.rest ≡ piece_length false l.tokens) × (l.count + length l.rest ≡ length l.tokens)

abbrev pub decreases-counting : goal.decreases-counting
decreases-counting l = length l.rest
