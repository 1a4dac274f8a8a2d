-- The scene of the layers is valid.
use Rattle.std.proofs.Common.{◌≡◌, ℕ, true, List, Some, refl, sym, ap, ◌∙◌, subst, arith, inl, inr, length, slice_get, get_or, All, filter, true≢false}
use Rattle.std.specs.Prelude.{IsSome, nat_lt}
use Rattle.std.proofs.lemmas.Bool.{ltb-true}
use Rattle.std.proofs.lemmas.List.Elements.{All-filter, filter_passes}
use Rattle.std.proofs.lemmas.List.Folds.{Any-from_list_any}
use Rattle.std.proofs.lemmas.Option.{slice_get-get_or, slice_get_within}
use Rattle.page_model.specs.declared.element.Element.{Element}
use Rattle.page_model.specs.declared.element.Tag.{Tag}
use Rattle.page_model.specs.declared.element.Tag.TheVariants.{Body, Div, Span}
use Rattle.page_model.specs.declared.keyframe.Keyframe.{Keyframe}
use Rattle.page_model.specs.declared.keyframe.KeyframeSet.{KeyframeSet}
use Rattle.page_model.specs.declared.rule.Decl.{Decl}
use Rattle.page_model.specs.declared.scene.Layer.{Layer}
use Rattle.page_model.specs.Cascade.{names_property}
use Rattle.page_model.specs.ValidScene.{IsPaintOrder, IsSetInUse, IsValid, NamesProperty}
use Rattle.css_reader.specs.ReadySheet.{IsReadySet, IsReadySheet}
use Rattle.css_reader.specs.SheetState.{SheetState}
use Rattle.cascade.specs.Sources.{AreLayers, FitsTag, IsGoodLayer, IsReadyPage, kept_of}
use Rattle.cascade.proofs.SourceLemmas.{item_there}

-- a set with a value in a keyframe
names_there : (set : KeyframeSet) → names_property set ≡ true → NamesProperty set
names_there set names =
    let test = λ (frame : Keyframe). nat_lt 0 (length frame.values) in
    let any = Any-from_list_any test set.frames names in
    record { place = any.0; frame = any.1; is_there = slice_get-get_or set.frames any.0 any.1 any.2 ∙ ap Some any.3; value = ltb-true 0 (length any.1.values) any.4 }

kept_in_use : (sets : List KeyframeSet) → All IsReadySet sets → All IsSetInUse (filter names_property sets)
kept_in_use sets ready = λ k d within.
    let names = filter_passes names_property sets k d within in
    elim (All-filter names_property IsReadySet sets ready k d within) [
      | inl is ↦ record { is_set = is; names = names_there (get_or (filter names_property sets) k d) names }
      | inr none ↦ absurd (true≢false (sym names ∙ none))
    ]

-- the layer of an element
good_at : (sheet : SheetState) (elements : List Element) (inline : List (List Decl)) (layers : List Layer) → length inline ≡ length elements → AreLayers sheet elements inline layers (length elements) → (number : ℕ) (element : Element) (layer : Layer) → slice_get elements number ≡ Some element → slice_get layers number ≡ Some layer → (decls : List Decl) × IsGoodLayer sheet element decls layer
good_at sheet elements inline layers one_each are number element layer here got =
    let own = item_there inline number (omega (arith, slice_get_within elements number element here, one_each)) in
    (own.0, are.good number element own.0 layer here own.1 got)

box_colour : (tag : Tag) (kept : List KeyframeSet) (layer : Layer) → (tag ≡ Body → ⊥) → FitsTag tag kept layer → IsSome layer.colour
box_colour Body kept layer other fits = absurd (other refl)
box_colour Div kept layer other fits = fits
box_colour Span kept layer other fits = fits

pub valid_scene : (sheet : SheetState) (elements : List Element) (inline : List (List Decl)) (layers : List Layer) (order : List ℕ) → IsReadyPage elements → IsReadySheet sheet → length inline ≡ length elements → AreLayers sheet elements inline layers (length elements) → IsPaintOrder layers order → IsValid (record { layers = layers; order = order; sets = kept_of sheet })
valid_scene sheet elements inline layers order page ready one_each are painted = record {
  some_layer = omega (arith, page.some, are.one_each);
  few_layers = omega (arith, page.few, are.one_each);
  layers = λ k d within.
      let element = item_there elements k (omega (arith, within, are.one_each)) in
      (good_at sheet elements inline layers one_each are k element.0 (get_or layers k d) element.1 (slice_get-get_or layers k d within)).1.valid;
  body = λ body there.
      let element = item_there elements 0 page.some in
      subst (λ tag. FitsTag tag (kept_of sheet) body) ((page.body 0 element.0 element.1).1 refl) (good_at sheet elements inline layers one_each are 0 element.0 body element.1 there).1.fits;
  boxes = λ number box from there.
      let element = item_there elements number (omega (arith, slice_get_within layers number box there, are.one_each)) in
      box_colour element.0.tag (kept_of sheet) box (λ is. omega (arith, from, (page.body number element.0 element.1).0 is)) (good_at sheet elements inline layers one_each are number element.0 box element.1 there).1.fits;
  order = painted;
  sets = kept_in_use sheet.sets ready.sets;
}
