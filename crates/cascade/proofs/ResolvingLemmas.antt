-- Sources have a scene or a first fault: the elements are gone through up to the first that has one.
use Rattle.std.proofs.Common.{◌≡◌, ℕ, zero, suc, ◌+◌, ◌-◌, ◌<◌, ◌≤◌, ◌⊎◌, List, [], ◌∷◌, ◌++◌, Option, Some, None, refl, subst, inl, inr, arith, length, All}
use Rattle.std.specs.Prelude.{fold}
use Rattle.page_model.specs.declared.animation.Anim.{Anim}
use Rattle.page_model.specs.declared.element.Element.{Element}
use Rattle.page_model.specs.declared.rule.Decl.{Decl}
use Rattle.page_model.specs.declared.scene.Layer.{Layer}
use Rattle.page_model.specs.declared.scene.Scene.{Scene}
use Rattle.page_model.specs.Cascade.{AreWinners, Fault, IsFirstFault, IsScene, Winners, animations_won, candidates_of, fault_of, layer_of}
use Rattle.css_reader.specs.ReadySheet.{AreReadyDecls, IsReadySheet}
use Rattle.css_reader.specs.SheetState.{SheetState, set_named}
use Rattle.cascade_winners.specs.Offers.{offered}
use Rattle.cascade_winners.specs.Views.{no_winners}
use Rattle.cascade_winners.proofs.OriginLemmas.{all_at, only_winners, winning_values}
use Rattle.cascade_winners.proofs.WinningLemmas.{fold_wins}
use Rattle.cascade.specs.declared.scene_fault.SceneFault.{SceneFault}
use Rattle.cascade.specs.Painting.{put_in}
use Rattle.cascade.specs.Refusals.{IsTold, IsToldOf, told}
use Rattle.cascade.specs.Sources.{AreLayers, IsFaultOf, IsGoodLayer, kept_of, sources_of}
use Rattle.cascade.proofs.PaintingLemmas.{ArePainted, all_painted, none_painted, painted_more}
use Rattle.cascade.proofs.SourceLemmas.{fault_for, first_here, item_there, layer_for, layers_more, no_layers, scene_of}
use Rattle.cascade.proofs.ValidLemmas.{AreGood, fits_tag, tests_failed, valid_layer}

-- sources that the cascade can judge
record AreReady (sheet : SheetState) (elements : List Element) (inline : List (List Decl)) : Type 0 where
  is_sheet : IsReadySheet sheet
  are_decls : All AreReadyDecls inline
  one_each : length inline ≡ length elements

-- an element has a layer or a fault
abbrev IsElementJudged : SheetState → Element → List Decl → Type 0
IsElementJudged sheet element decls =
    ((layer : Layer) × IsGoodLayer sheet element decls layer) ⊎ ((kind : Fault) × IsFaultOf sheet element decls (Some kind))

judge_element : (sheet : SheetState) (element : Element) (decls : List Decl) → IsReadySheet sheet → AreReadyDecls decls
    → IsElementJudged sheet element decls
judge_element sheet element decls ready own_ready = by_fault (fault_of element.tag (kept_of sheet) own anims) refl where
  own : Winners
  own = fold offered no_winners (candidates_of sheet.rules element decls)

  anims : List Anim
  anims = animations_won (set_named sheet) sheet.sets own

  are : AreWinners sheet.rules element decls own
  are = fold_wins (candidates_of sheet.rules element decls)

  only : (other : Winners) → AreWinners sheet.rules element decls other → other ≡ own
  only other also = only_winners sheet.rules element decls ready.rules own_ready other own also are

  values : AreGood own
  values = winning_values sheet.rules element decls ready.rules own_ready own are

  by_fault : (fault : Option Fault) → fault ≡ fault_of element.tag (kept_of sheet) own anims → IsElementJudged sheet element decls
  by_fault (Some kind) is = inr (kind, fault_for sheet element decls own only anims refl (Some kind) is)
  by_fault None none =
      let clear = tests_failed element.tag (kept_of sheet) own anims none in
      inl (
        layer_of own anims,
        record {
          no_fault = fault_for sheet element decls own only anims refl None none;
          is_layer = layer_for sheet element decls own only anims refl (layer_of own anims) refl;
          valid = valid_layer sheet element.tag own values clear;
          fits = fits_tag (kept_of sheet) element.tag own anims values clear;
        },
      )

-- the first elements have their layers, or one of them has the first fault
abbrev AreJudged : SheetState → List Element → List (List Decl) → ℕ → Type 0
AreJudged sheet elements inline count =
    ((layers : List Layer) × AreLayers sheet elements inline layers count)
    ⊎ ((fault : SceneFault) × IsTold (sources_of sheet elements inline) fault)

judge_next : (sheet : SheetState) (elements : List Element) (inline : List (List Decl)) → AreReady sheet elements inline
    → (layers : List Layer) (count : ℕ) → AreLayers sheet elements inline layers count → count < length elements
    → AreJudged sheet elements inline (count + 1)
judge_next sheet elements inline ready layers count are within =
    let element = item_there elements count within in
    let decls = item_there inline count (omega (arith, within, ready.one_each)) in
    let own_ready = all_at AreReadyDecls inline decls.0 ready.are_decls (record { place = count; is_there = decls.1 }) in
    elim (judge_element sheet element.0 decls.0 ready.is_sheet own_ready) [
      | inl good ↦ inl (layers ++ good.0 ∷ [], layers_more sheet elements inline layers count element.0 decls.0 good.0 are element.1 decls.1 good.1)
      | inr bad ↦
          let fault = told count bad.0 in
          let here : IsToldOf (λ kind. IsFaultOf sheet element.0 decls.0 (Some kind)) count fault = record { kind = bad.0; holds = bad.1; is = refl } in
          inr (fault, first_here sheet elements inline layers count element.0 decls.0 fault are element.1 decls.1 here)
    ]

judge_first : (sheet : SheetState) (elements : List Element) (inline : List (List Decl)) → AreReady sheet elements inline
    → (count : ℕ) → count ≤ length elements → AreJudged sheet elements inline count
judge_first sheet elements inline ready zero within = inl ([], no_layers sheet elements inline)
judge_first sheet elements inline ready (suc count) within =
    elim (judge_first sheet elements inline ready count (omega (arith, within))) [
      | inl so_far ↦
          let next : count + 1 ≡ suc count = omega arith in
          subst (AreJudged sheet elements inline) next (judge_next sheet elements inline ready so_far.0 count so_far.1 (omega (arith, within)))
      | inr fault ↦ inr fault
    ]

-- layers have a paint order
painted_up_to : (layers : List Layer) (last : ℕ) → (order : List ℕ) × ArePainted layers order last
painted_up_to layers zero = ([], none_painted layers)
painted_up_to layers (suc last) =
    let before = painted_up_to layers last in
    let order = put_in layers (last + 1) before.0 in
    let next : last + 1 ≡ suc last = omega arith in
    (order, subst (ArePainted layers order) next (painted_more layers before.0 last before.1))

pub every_resolved : (sheet : SheetState) (elements : List Element) (inline : List (List Decl)) → IsReadySheet sheet
    → All AreReadyDecls inline → length inline ≡ length elements
    → ((scene : Scene) × IsScene (sources_of sheet elements inline) scene)
    ⊎ ((number : ℕ) × (kind : Fault) × IsFirstFault (sources_of sheet elements inline) number kind)
every_resolved sheet elements inline is_sheet are_decls one_each =
    let ready : AreReady sheet elements inline = record { is_sheet = is_sheet; are_decls = are_decls; one_each = one_each } in
    elim (judge_first sheet elements inline ready (length elements) (omega arith)) [
      | inl found ↦
          let layers = found.0 in
          let order = painted_up_to layers (length layers - 1) in
          let painted = all_painted layers order.0 (length layers - 1) refl order.1 in
          let scene : Scene = record { layers = layers; order = order.0; sets = kept_of sheet } in
          inl (scene, scene_of sheet elements inline one_each layers order.0 found.1 painted)
      | inr fault ↦ let first = fault.1 in inr (first.number, first.kind, first.first)
    ]
