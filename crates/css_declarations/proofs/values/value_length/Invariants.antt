use Rattle.std.proofs.Common.{◌≡◌, ◌+◌, length}
use Rattle.css_declarations.specs.DeclarationReading.{value_length}
use Rattle.css_declarations.proofs.values.value_length.Given as goal

abbrev pub invariant-counting : goal.invariant-counting
invariant-counting l = (l.count + value_length l.rest ≡ value_length l.tokens) × (l.count + length l.rest ≡ length l.tokens)

abbrev pub decreases-counting : goal.decreases-counting
decreases-counting l = length l.rest
