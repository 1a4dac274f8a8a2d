-- Elements, their faults and their layers.
use Rattle.std.proofs.Common.{◌≡◌, ℕ, ◌+◌, ◌<◌, List, [], ◌∷◌, ◌++◌, Option, Some, None, refl, sym, ap, ◌∙◌, subst, arith, suc, zero, inl, inr, ◌⊎◌, length, slice_get, length-append}
use Rattle.std.proofs.lemmas.Bool.{cases_lt}
use Rattle.std.proofs.lemmas.Option.{slice_get_within}
use Rattle.page_model.specs.declared.element.Element.{Element}
use Rattle.page_model.specs.declared.animation.Anim.{Anim}
use Rattle.page_model.specs.declared.rule.Decl.{Decl}
use Rattle.page_model.specs.declared.scene.Layer.{Layer}
use Rattle.page_model.specs.declared.scene.Scene.{Scene}
use Rattle.page_model.specs.Cascade.{AreWinners, Fault, HasFault, IsElement, IsFirstFault, IsScene, Winners, animations_won, candidates_of, fault_of, layer_of}
use Rattle.page_model.specs.ValidScene.{IsPaintOrder}
use Rattle.css_reader.specs.SheetState.{SheetState, set_named}
use Rattle.cascade_winners.specs.Offers.{offered}
use Rattle.cascade_winners.specs.Views.{no_winners}
use Rattle.std.specs.Prelude.{fold}
use Rattle.cascade_winners.proofs.WinningLemmas.{fold_wins}
use Rattle.cascade.specs.declared.scene_fault.SceneFault.{SceneFault}
use Rattle.cascade.specs.declared.scene_fault.SceneFault.TheVariants.{NoMemory}
use Rattle.cascade.specs.Refusals.{IsRefusal, IsTold, IsToldOf, told}
use Rattle.cascade.specs.Sources.{AreLayers, IsFaultOf, IsGoodLayer, IsLayerOf, kept_of, sources_of}

-- what the code found of its own winners is so of all
pub fault_for : (sheet : SheetState) (element : Element) (inline : List Decl) (own : Winners) → ((other : Winners) → AreWinners sheet.rules element inline other → other ≡ own) → (anims : List Anim) → anims ≡ animations_won (set_named sheet) sheet.sets own → (fault : Option Fault) → fault ≡ fault_of element.tag (kept_of sheet) own anims → IsFaultOf sheet element inline fault
fault_for sheet element inline own only anims animated fault is winners are =
    is ∙ ap (fault_of element.tag (kept_of sheet) own) animated
    ∙ ap (λ (winners : Winners). fault_of element.tag (kept_of sheet) winners (animations_won (set_named sheet) sheet.sets winners)) (sym (only winners are))

pub layer_for : (sheet : SheetState) (element : Element) (inline : List Decl) (own : Winners) → ((other : Winners) → AreWinners sheet.rules element inline other → other ≡ own) → (anims : List Anim) → anims ≡ animations_won (set_named sheet) sheet.sets own → (layer : Layer) → layer ≡ layer_of own anims → IsLayerOf sheet element inline layer
layer_for sheet element inline own only anims animated layer is winners are =
    is ∙ ap (layer_of own) animated
    ∙ ap (λ (winners : Winners). layer_of winners (animations_won (set_named sheet) sheet.sets winners)) (sym (only winners are))

-- an item of a list with one more is one of the list, or that one
got_push : {A : Type 0} (xs : List A) (x y : A) (i : ℕ) → slice_get (xs ++ x ∷ []) i ≡ Some y → (slice_get xs i ≡ Some y) ⊎ ((i ≡ length xs) × (x ≡ y))
got_push [] x y zero got = inr (refl, cc)
got_push [] x y (suc i) got = absurd (cc)
got_push (z ∷ zs) x y zero got = inl got
got_push (z ∷ zs) x y (suc i) got = elim (got_push zs x y i got) [ inl within ↦ inl within | inr last ↦ inr (omega (arith, last.0), last.1) ]

same_some : {A : Type 0} (x y : A) → Some x ≡ Some y → x ≡ y
same_some x y same = cc

-- no layer yet
pub no_layers : (sheet : SheetState) (elements : List Element) (inline : List (List Decl)) → AreLayers sheet elements inline [] 0
no_layers sheet elements inline = record { one_each = refl; good = λ number element decls layer here own got. absurd (cc) }

-- one layer more
pub layers_more : (sheet : SheetState) (elements : List Element) (inline : List (List Decl)) (layers : List Layer) (count : ℕ) (element : Element) (decls : List Decl) (layer : Layer) → AreLayers sheet elements inline layers count → slice_get elements count ≡ Some element → slice_get inline count ≡ Some decls → IsGoodLayer sheet element decls layer → AreLayers sheet elements inline (layers ++ layer ∷ []) (count + 1)
layers_more sheet elements inline layers count element decls layer are here own good = record {
  one_each = omega (arith, length-append layers (layer ∷ []), are.one_each);
  good = λ number element' decls' layer' here' own' got.
      elim (got_push layers layer layer' number got) [
        | inl within ↦ are.good number element' decls' layer' here' own' within
        | inr last ↦
            let at = last.0 ∙ are.one_each in
            let same_element = same_some element element' (sym here ∙ ap (slice_get elements) (sym at) ∙ here') in
            let same_decls = same_some decls decls' (sym own ∙ ap (slice_get inline) (sym at) ∙ own') in
            subst (λ (layer : Layer). IsGoodLayer sheet element' decls' layer) last.1
            (subst (λ (decls : List Decl). IsGoodLayer sheet element' decls layer) same_decls
            (subst (λ (element : Element). IsGoodLayer sheet element decls layer) same_element good))
      ];
}

-- an item stands at each place below the length
pub item_there : {A : Type 0} (items : List A) (number : ℕ) → number < length items → (item : A) × (slice_get items number ≡ Some item)
item_there [] number within = absurd (omega (arith, within))
item_there (item ∷ items) zero within = (item, refl)
item_there (item ∷ items) (suc number) within = item_there items number (omega (arith, within))

-- an element with its layer has no fault
clear : (sheet : SheetState) (elements : List Element) (inline : List (List Decl)) (layers : List Layer) (count : ℕ) → AreLayers sheet elements inline layers count → (number : ℕ) → number < count → HasFault (sources_of sheet elements inline) number None
clear sheet elements inline layers count are number within element winners is =
    let there = item_there layers number (omega (arith, within, are.one_each)) in
    (are.good number element is.inline there.0 is.is_there is.inline_is there.1).no_fault winners is.winners_are

-- the first fault is that of the element that comes next
pub first_here : (sheet : SheetState) (elements : List Element) (inline : List (List Decl)) (layers : List Layer) (count : ℕ) (element : Element) (decls : List Decl) (fault : SceneFault) → AreLayers sheet elements inline layers count → slice_get elements count ≡ Some element → slice_get inline count ≡ Some decls → IsToldOf (λ kind. IsFaultOf sheet element decls (Some kind)) count fault → IsTold (sources_of sheet elements inline) fault
first_here sheet elements inline layers count element decls fault are here own of = record {
  number = count;
  kind = of.kind;
  first = record {
    element = slice_get_within elements count element here;
    is_fault = λ element' winners is.
        let same_element = same_some element element' (sym here ∙ is.is_there) in
        let same_decls = same_some decls is.inline (sym own ∙ is.inline_is) in
        let moved = subst (λ (element : Element). IsFaultOf sheet element decls (Some of.kind)) same_element of.holds in
        subst (λ (decls : List Decl). IsFaultOf sheet element' decls (Some of.kind)) same_decls moved winners is.winners_are;
    none_before = λ before less. clear sheet elements inline layers count are before less;
  };
  is = of.is;
}

-- each element has winners
some_element : (sheet : SheetState) (elements : List Element) (inline : List (List Decl)) → length inline ≡ length elements → (number : ℕ) → number < length elements → (element : Element) × (winners : Winners) × IsElement (sources_of sheet elements inline) number element winners
some_element sheet elements inline one_each number within =
    let element = item_there elements number within in
    let decls = item_there inline number (omega (arith, within, one_each)) in
    let all = candidates_of sheet.rules element.0 decls.0 in
    (element.0, fold offered no_winners all, record { is_there = element.1; inline = decls.0; inline_is = decls.1; winners_are = fold_wins all })

-- no element has two answers
one_answer : (sheet : SheetState) (elements : List Element) (inline : List (List Decl)) → length inline ≡ length elements → (number : ℕ) → number < length elements → (one other : Option Fault) → HasFault (sources_of sheet elements inline) number one → HasFault (sources_of sheet elements inline) number other → one ≡ other
one_answer sheet elements inline one_each number within one other first second =
    let found = some_element sheet elements inline one_each number within in
    first found.0 found.1 found.2 ∙ sym (second found.0 found.1 found.2)

-- where there is a scene there is no first fault
pub scene_has_none : (sheet : SheetState) (elements : List Element) (inline : List (List Decl)) → length inline ≡ length elements → (scene : Scene) → IsScene (sources_of sheet elements inline) scene → (number : ℕ) (kind : Fault) → IsFirstFault (sources_of sheet elements inline) number kind → ⊥
scene_has_none sheet elements inline one_each scene is number kind first =
    cc (one_answer sheet elements inline one_each number first.element None (Some kind) (is.no_fault number first.element) first.is_fault)

-- there is one first fault
pub one_first : (sheet : SheetState) (elements : List Element) (inline : List (List Decl)) → length inline ≡ length elements → (m n : ℕ) (one other : Fault) → IsFirstFault (sources_of sheet elements inline) m one → IsFirstFault (sources_of sheet elements inline) n other → (m ≡ n) × (one ≡ other)
one_first sheet elements inline one_each m n one other first second =
    elim (cases_lt m n) [
      | inl before ↦ absurd (cc (one_answer sheet elements inline one_each m first.element (Some one) None first.is_fault (second.none_before m before)))
      | inr from ↦ elim (cases_lt n m) [
        | inl behind ↦ absurd (cc (one_answer sheet elements inline one_each n second.element (Some other) None second.is_fault (first.none_before n behind)))
        | inr upto ↦
            let same : m ≡ n = omega (arith, from, upto) in
            (same, same_some one other (one_answer sheet elements inline one_each n second.element (Some one) (Some other) (subst (λ at. HasFault (sources_of sheet elements inline) at (Some one)) same first.is_fault) second.is_fault))
      ]
    ]

-- an answer that is a refusal is the one that the first fault gives
pub refusal_is : (sheet : SheetState) (elements : List Element) (inline : List (List Decl)) → length inline ≡ length elements → (fault : SceneFault) → IsRefusal (sources_of sheet elements inline) fault → (number : ℕ) (kind : Fault) → IsFirstFault (sources_of sheet elements inline) number kind → (fault ≡ told number kind) ⊎ (fault ≡ NoMemory)
refusal_is sheet elements inline one_each fault (inl refused) number kind first = inr refused
refusal_is sheet elements inline one_each fault (inr is) number kind first =
    let same = one_first sheet elements inline one_each is.number number is.kind kind is.first first in
    inl (is.is ∙ (λ j. told (same.0 j) (same.1 j)))

-- the scene of the layers
pub scene_of : (sheet : SheetState) (elements : List Element) (inline : List (List Decl)) → length inline ≡ length elements → (layers : List Layer) (order : List ℕ) → AreLayers sheet elements inline layers (length elements) → IsPaintOrder layers order → IsScene (sources_of sheet elements inline) (record { layers = layers; order = order; sets = kept_of sheet })
scene_of sheet elements inline one_each layers order are painted = record {
  no_fault = λ number within. clear sheet elements inline layers (length elements) are number within;
  one_each = are.one_each;
  layers = λ number layer got element winners is. (are.good number element is.inline layer is.is_there is.inline_is got).is_layer winners is.winners_are;
  order = painted;
  sets = refl;
}
