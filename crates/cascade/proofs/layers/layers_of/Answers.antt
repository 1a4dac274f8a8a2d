use Rattle.std.proofs.Common.{sym, subst, inl, inr, refl, arith, ◌+◌}
use Rattle.std.proofs.lemmas.Option.{slice_get_read}
use Rattle.std.proofs.lemmas.Result.{err_from_is_err_and}
use Rattle.css_reader.specs.ReadySheet.{AreReadyDecls}
use Rattle.cascade.specs.Sources.{AreLayers}
use Rattle.cascade.proofs.SourceLemmas.{first_here, layers_more}
use Rattle.cascade.proofs.layers.layers_of.Goals as goal

pub layer_at-requires-clause-inline : goal.layer_at-requires-clause-inline
layer_at-requires-clause-inline c =
    subst AreReadyDecls (sym c.index-inline-number.is) (c.requires.inline c.elements.number c.index-inline-number.result (omega (arith, c.elements-test.true, c.requires.one_each)))

pub returns-in_err-layer-clause-refused : goal.returns-in_err-layer-clause-refused
returns-in_err-layer-clause-refused c =
    let elements = c.args.elements.now in
    let inline = c.args.inline.now in
    let number = c.elements.number in
    let here = slice_get_read elements _ number c.index-elements-number.result refl c.elements-test.true c.index-elements-number.is in
    let own = slice_get_read inline _ number c.index-inline-number.result refl (omega (arith, c.elements-test.true, c.requires.one_each)) c.index-inline-number.is in
    let p = err_from_is_err_and c.from_residual.result c.from_residual.ensures.1 in
    rw (p.1, p.2) (elim c.in_err-layer.ensures.refused [
      | inl want ↦ inl want
      | inr of ↦ inr (first_here c.args.sheet.now elements inline c.elements.layers number c.index-elements-number.result c.index-inline-number.result c.in_err-layer.field-0.0 c.elements.invariant here own of)
    ])

pub elements-preserved : goal.elements-preserved
elements-preserved c =
    let elements = c.args.elements.now in
    let inline = c.args.inline.now in
    let number = c.elements.number in
    let here = slice_get_read elements _ number c.index-elements-number.result refl c.elements-test.true c.index-elements-number.is in
    let own = slice_get_read inline _ number c.index-inline-number.result refl (omega (arith, c.elements-test.true, c.requires.one_each)) c.index-inline-number.is in
    let more = layers_more c.args.sheet.now elements inline c.elements.layers number c.index-elements-number.result c.index-inline-number.result c.in_ok-layer.layer c.elements.invariant here own c.in_ok-layer.ensures.layer in
    subst (λ layers. AreLayers c.args.sheet.now elements inline layers (number + 1)) (sym c.in_ok-push.ensures) more
