use Rattle.std.proofs.Common.{◌≡◌, ◌∙◌, ap, sym, subst, inl, inr, filter, length, Err}
use Rattle.std.proofs.lemmas.Result.{err_from_is_err_and}
use Rattle.page_model.specs.Cascade.{IsScene, names_property}
use Rattle.page_model.specs.ValidScene.{IsPaintOrder, IsValid}
use Rattle.cascade.specs.Refusals.{IsRefusal}
use Rattle.cascade.specs.Sources.{AreLayers, kept_of, sources_of}
use Rattle.cascade.proofs.SceneLemmas.{valid_scene}
use Rattle.cascade.proofs.SourceLemmas.{refusal_is, scene_has_none, scene_of}
use Rattle.cascade.proofs.resolving.resolve.Goals as goal

-- the refusal by the page's own lists
abbrev pub refused : (c : goal.After-drop-page-in_err-layers) → IsRefusal (sources_of c.args.sheet c.args.page.elements c.args.inline) c.in_err-layers.field-0.0
refused c =
    let fault = c.in_err-layers.field-0.0 in
    subst (λ inline. IsRefusal (sources_of c.args.sheet c.args.page.elements inline) fault) c.as_slice-3.ensures
    (subst (λ elements. IsRefusal (sources_of c.args.sheet elements c.as_slice-3.result.now) fault) c.as_slice-2.ensures c.in_err-layers.ensures.refused)

-- the first fault is what is told
pub returns-in_err-layers-clause-faults : goal.returns-in_err-layers-clause-faults
returns-in_err-layers-clause-faults c number kind first =
    let sheet = c.args.sheet in
    let elements = c.args.page.elements in
    let inline = c.args.inline in
    let fault = c.in_err-layers.field-0.0 in
    let p = err_from_is_err_and c.from_residual-in_err-layers.result c.from_residual-in_err-layers.ensures.1 in
    rw (p.1, p.2) (elim (refusal_is sheet elements inline c.requires.one_each fault (refused c) number kind first) [ inl is ↦ inl (ap Err is) | inr want ↦ inr (ap Err want) ])

-- a scene leaves no first fault
pub returns-in_err-layers-clause-given : goal.returns-in_err-layers-clause-given
returns-in_err-layers-clause-given c scene is =
    let sheet = c.args.sheet in
    let elements = c.args.page.elements in
    let inline = c.args.inline in
    let fault = c.in_err-layers.field-0.0 in
    let p = err_from_is_err_and c.from_residual-in_err-layers.result c.from_residual-in_err-layers.ensures.1 in
    rw (p.1, p.2) (elim (refused c) [
      | inl want ↦ want
      | inr told ↦ absurd (scene_has_none sheet elements inline c.requires.one_each scene is told.number told.kind told.first)
    ])

-- the layers, their order and the sets are those of the sources
abbrev pub layers : (c : goal.After-drop-page-2) → AreLayers c.args.sheet c.args.page.elements c.args.inline c.in_ok-layers.layers (length c.args.page.elements)
layers c =
    let sheet = c.args.sheet in
    let elements = c.args.page.elements in
    subst (λ inline. AreLayers sheet elements inline c.in_ok-layers.layers (length elements)) c.as_slice-3.ensures
    (subst (λ elements. AreLayers sheet elements c.as_slice-3.result.now c.in_ok-layers.layers (length elements)) c.as_slice-2.ensures c.in_ok-layers.ensures.layers)

abbrev pub painted : (c : goal.After-drop-page-2) → IsPaintOrder c.in_ok-layers.layers c.in_ok-order.order
painted c = subst (λ layers. IsPaintOrder layers c.in_ok-order.order) c.as_slice-4.ensures c.in_ok-order.ensures

abbrev pub sets : (c : goal.After-drop-page-2) → c.in_ok-sets.sets ≡ kept_of c.args.sheet
sets c = c.in_ok-sets.ensures ∙ ap (filter names_property) c.into_sets.ensures

pub returns-clause-scene : goal.returns-clause-scene
returns-clause-scene c =
    subst (λ sets. IsScene (sources_of c.args.sheet c.args.page.elements c.args.inline) (record { layers = c.in_ok-layers.layers; order = c.in_ok-order.order; sets = sets })) (sym (sets c))
    (scene_of c.args.sheet c.args.page.elements c.args.inline c.requires.one_each c.in_ok-layers.layers c.in_ok-order.order (layers c) (painted c))

pub returns-clause-valid : goal.returns-clause-valid
returns-clause-valid c =
    subst (λ sets. IsValid (record { layers = c.in_ok-layers.layers; order = c.in_ok-order.order; sets = sets })) (sym (sets c))
    (valid_scene c.args.sheet c.args.page.elements c.args.inline c.in_ok-layers.layers c.in_ok-order.order c.requires.page c.requires.sheet c.requires.one_each (layers c) (painted c))

pub returns-clause-faults : goal.returns-clause-faults
returns-clause-faults c number kind first =
    absurd (scene_has_none c.args.sheet c.args.page.elements c.args.inline c.requires.one_each _ (returns-clause-scene c) number kind first)
