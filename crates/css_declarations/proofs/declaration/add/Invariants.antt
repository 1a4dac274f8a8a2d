use Rattle.std.proofs.Common.{◌≡◌, ◌++◌, map}
use Rattle.css_declarations.specs.DeclarationGrammar.{decl_of}
use Rattle.css_declarations.proofs.declaration.add.Given as goal

abbrev pub invariant-adding : goal.invariant-adding
invariant-adding l = l.decls ≡ l.initial.decls ++ map (decl_of l.important l.place) l.yielded
