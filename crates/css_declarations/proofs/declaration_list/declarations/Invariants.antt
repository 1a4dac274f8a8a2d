use Rattle.std.proofs.Common.{length}
use Rattle.css_declarations.proofs.ListLemmas.{AreSoFar}
use Rattle.css_declarations.proofs.declaration_list.declarations.Given as goal

abbrev pub invariant-declaring : goal.invariant-declaring
invariant-declaring l = AreSoFar l.context l.text l.tokens l.initial.decls l.decls l.rest

abbrev pub decreases-declaring : goal.decreases-declaring
decreases-declaring l = length l.rest
