use Rattle.std.proofs.Common.{◌+◌, All, refl, subst, sym}
use Rattle.std.proofs.lemmas.List.Elements.{All-push}
use Rattle.std.proofs.lemmas.Option.{slice_get_read}
use Rattle.std.proofs.lemmas.Result.{err_from_is_err_and}
use Rattle.page_model.specs.declared.element.Element.{Element}
use Rattle.css_declarations.specs.DeclarationFaults.{IsTold}
use Rattle.css_declarations.specs.InlineText.{IsInlineFault, SpellsInline}
use Rattle.css_declarations.specs.ReadyDecls.{AreReadyDecls}
use Rattle.page_loader.proofs.StyleLemmas.{AreSoFar, one_more, refused_here}
use Rattle.page_loader.proofs.styles.read_styles.Goals as goal

pub returns-in_err-decls-clause-refused : goal.returns-in_err-decls-clause-refused
returns-in_err-decls-clause-refused c =
    let elements = c.args.elements.now in
    let number = c.elements.number in
    let element = c.index-elements-number.result in
    let here = slice_get_read elements _ number element refl c.elements-test.true c.index-elements-number.is in
    let p = err_from_is_err_and c.from_residual.result c.from_residual.ensures.1 in
    rw (p.1, p.2)
    (refused_here c.args.text.now elements c.elements.inline number element c.in_err-decls.field-0.0 c.elements.invariant.so_far here
    (subst (λ (own : Element). IsTold (IsInlineFault c.args.text.now own.style) c.in_err-decls.field-0.0) (sym c.index-elements-number.is) c.in_err-decls.ensures.read))

pub elements-preserved : goal.elements-preserved
elements-preserved c =
    let text = c.args.text.now in
    let elements = c.args.elements.now in
    let number = c.elements.number in
    let element = c.index-elements-number.result in
    let decls = c.in_ok-decls.decls in
    let here = slice_get_read elements _ number element refl c.elements-test.true c.index-elements-number.is in
    let more = one_more text elements c.elements.inline number element decls c.elements.invariant.so_far here
    (subst (λ (own : Element). SpellsInline text own.style decls) (sym c.index-elements-number.is) c.in_ok-decls.ensures.read) in
    let ready = All-push AreReadyDecls c.elements.inline decls c.elements.invariant.ready c.in_ok-decls.ensures.ready in
    record {
      so_far = subst (λ inline. AreSoFar text elements inline (number + 1)) (sym c.in_ok-push.ensures) more;
      ready = subst (All AreReadyDecls) (sym c.in_ok-push.ensures) ready;
    }
