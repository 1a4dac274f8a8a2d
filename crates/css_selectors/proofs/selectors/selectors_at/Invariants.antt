use Rattle.std.proofs.Common.{length}
use Rattle.css_selectors.proofs.SelectorLemmas.{AreListed}
use Rattle.css_selectors.proofs.selectors.selectors_at.Given as goal

abbrev pub invariant-listing : goal.invariant-listing
invariant-listing l = AreListed l.text l.end l.tokens l.selectors l.rest

abbrev pub decreases-listing : goal.decreases-listing
decreases-listing l = length l.rest
