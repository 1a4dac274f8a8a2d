use Rattle.std.specs.Prelude.{All}
use Rattle.css_declarations.specs.ReadyDecls.{AreReadyDecls}
use Rattle.page_loader.proofs.StyleLemmas.{AreSoFar}
use Rattle.page_loader.proofs.styles.read_styles.Given as goal

-- those of the elements so far are read, and ready
abbrev pub invariant-elements : goal.invariant-elements
invariant-elements l = record { so_far : AreSoFar l.text l.elements l.inline l.number; ready : All AreReadyDecls l.inline }
