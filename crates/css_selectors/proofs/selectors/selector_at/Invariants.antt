use Rattle.std.proofs.Common.{length}
use Rattle.css_selectors.proofs.SelectorLemmas.{IsGrowing}
use Rattle.css_selectors.proofs.selectors.selector_at.Given as goal

abbrev pub invariant-parts : goal.invariant-parts
invariant-parts l = IsGrowing l.text l.end l.tokens l.compound l.last l.rest

abbrev pub decreases-parts : goal.decreases-parts
decreases-parts l = length l.rest
