-- The winners of the two elements of the example, whatever function they are given by, and what follows for its scene.
use Rattle.std.proofs.Common.{◌≡◌, ℕ, zero, suc, ◌<◌, ◌≤◌, false, List, [], ◌∷◌, refl, arith, ap, sym, subst, ◌∙◌}
use Rattle.std.specs.Prelude.{Option, Some, None, slice_get, slice_index_or, codes}
use Rattle.page_model.specs.declared.element.Tag.TheVariants.{Body, Div}
use Rattle.page_model.specs.declared.element.Element.{Element}
use Rattle.page_model.specs.declared.rule.Decl.{Decl}
use Rattle.page_model.specs.declared.rule.Longhand.TheVariants.{Position, Colour}
use Rattle.page_model.specs.declared.scene.Layer.{Layer}
use Rattle.page_model.specs.Cascade.{Candidate, Winners, AreWinners, IsWinning, IsElement, Sources, HasFault, HasLayer, IsScene, IsFirstFault, fault_of, not_placed, layer_of, animations_in, is_beaten_by, by_attribute, by_selector, candidates_of, of_property}
use Rattle.page_model.specs.ValidScene.{IsPaintOrder}
use Rattle.page_values.specs.CascadeValues.{compound, element}
use Rattle.page_values.specs.Colours.{opaque_grey}
use Rattle.page_values.specs.PageValues.{plainly, body_rules, without_height, whole_box, sources_with, the_box, the_scene}
use Rattle.page_values.specs.SceneValues.{body}
use Rattle.page_values.proofs.WeightLemmas.{winner-exists}

-- of no candidates none wins, and of one it does
none_won : (w : Option Candidate) → IsWinning [] w → w ≡ None
none_won None h = refl
none_won (Some c) h = let k = h.0.0 in let below : k < 0 = h.0.1 in absurd (omega arith)

only : (c d : Candidate) (k : ℕ) → k < 1 → slice_index_or (c ∷ []) k d ≡ d → Some d ≡ Some c
only c d zero below e = ap Some (sym e)
only c d (suc k) below e = absurd (omega arith)

one_won : (c : Candidate) (w : Option Candidate) → IsWinning (c ∷ []) w → w ≡ Some c
one_won c None h = cc
one_won c (Some d) h = only c d h.0.0 h.0.1 h.0.2

-- of two the second wins, where it beats the first
second : (c d e : Candidate) (k : ℕ) → k < 2 → slice_index_or (c ∷ (d ∷ [])) k e ≡ e → (c ≡ e → ⊥) → Some e ≡ Some d
second c d e zero below is not_first = absurd (not_first is)
second c d e (suc zero) below is not_first = ap Some (sym is)
second c d e (suc (suc k)) below is not_first = absurd (omega arith)

abbrev the_div : Element
the_div = element Div None []

abbrev the_body : Element
the_body = element Body None []

-- the body's two colours, of which the later one wins
abbrev body_colour : ℕ → ℕ → Candidate
body_colour level place = by_selector (plainly (Colour (opaque_grey level)) place) (compound (Some (codes "body")) [] [])

later_won : (w : Option Candidate) → IsWinning (body_colour 1 40 ∷ (body_colour 2 80 ∷ [])) w → w ≡ Some (body_colour 2 80)
later_won None h = cc
later_won (Some e) h =
    second (body_colour 1 40) (body_colour 2 80) e h.0.0 h.0.1 h.0.2
    (λ first.
    let unbeaten = subst (λ x. is_beaten_by x.weight (body_colour 2 80).weight ≡ false) (sym first) (h.1 1 e (omega arith)) in
    cc)

-- an element of the sources is the one at its number, with the attribute there
known :
    (sources : Sources) (number : ℕ) (el : Element) (winners : Winners) (one : Element) (attribute : List Decl)
    → slice_get sources.elements number ≡ Some one → slice_get sources.inline number ≡ Some attribute
    → IsElement sources number el winners → (one ≡ el) × AreWinners sources.rules one attribute winners
known sources number el winners one attribute there inline is =
    let same : one ≡ el = cc (there, is.is_there) in
    let alike : is.inline ≡ attribute = cc (inline, is.inline_is) in (
      same,
      subst (λ x. AreWinners sources.rules x attribute winners) (sym same)
          (subst (λ x. AreWinners sources.rules el x winners) alike is.winners_are),
    )

abbrev Whole : Sources
Whole = sources_with whole_box

body-fault : (attribute : List Decl) (winners : Winners) → AreWinners body_rules the_body [] winners → None ≡ fault_of Body [] winners (animations_in (sources_with attribute) winners)
body-fault attribute winners are =
    let w0 = none_won (winners 0) (are 0) in
    let w1 = none_won (winners 1) (are 1) in
    let w2 = none_won (winners 2) (are 2) in
    let w3 = none_won (winners 3) (are 3) in
    let w4 = none_won (winners 4) (are 4) in
    let w5 = later_won (winners 5) (are 5) in
    let w6 = none_won (winners 6) (are 6) in
    let w7 = none_won (winners 7) (are 7) in
    let w8 = none_won (winners 8) (are 8) in
    let w11 = none_won (winners 11) (are 11) in
    rw (w0, w1, w2, w3, w4, w5, w6, w7, w8, w11) refl

box-fault : (winners : Winners) → AreWinners body_rules the_div whole_box winners → None ≡ fault_of Div [] winners (animations_in Whole winners)
box-fault winners are =
    let w0 = one_won (by_attribute (plainly Position 200)) (winners 0) (are 0) in
    let w1 = one_won _ (winners 1) (are 1) in
    let w2 = one_won _ (winners 2) (are 2) in
    let w3 = one_won _ (winners 3) (are 3) in
    let w4 = one_won _ (winners 4) (are 4) in
    let w5 = one_won _ (winners 5) (are 5) in
    let w11 = none_won (winners 11) (are 11) in
    rw (w0, w1, w2, w3, w4, w5, w11) refl

low-fault :
    (winners : Winners) → AreWinners body_rules the_div without_height winners
    → Some not_placed ≡ fault_of Div [] winners (animations_in (sources_with without_height) winners)
low-fault winners are =
    let w0 = one_won _ (winners 0) (are 0) in
    let w1 = one_won _ (winners 1) (are 1) in
    let w2 = one_won _ (winners 2) (are 2) in
    let w3 = one_won _ (winners 3) (are 3) in
    let w4 = none_won (winners 4) (are 4) in
    rw (w0, w1, w2, w3, w4) refl

body-layer : (winners : Winners) → AreWinners body_rules the_body [] winners → body (Some (opaque_grey 2)) false [] ≡ layer_of winners (animations_in Whole winners)
body-layer winners are =
    let w1 = none_won (winners 1) (are 1) in
    let w2 = none_won (winners 2) (are 2) in
    let w3 = none_won (winners 3) (are 3) in
    let w4 = none_won (winners 4) (are 4) in
    let w5 = later_won (winners 5) (are 5) in
    let w6 = none_won (winners 6) (are 6) in
    let w7 = none_won (winners 7) (are 7) in
    let w8 = none_won (winners 8) (are 8) in
    let w11 = none_won (winners 11) (are 11) in
    rw (w1, w2, w3, w4, w5, w6, w7, w8, w11) refl

box-layer : (winners : Winners) → AreWinners body_rules the_div whole_box winners → the_box ≡ layer_of winners (animations_in Whole winners)
box-layer winners are =
    let w1 = one_won _ (winners 1) (are 1) in
    let w2 = one_won _ (winners 2) (are 2) in
    let w3 = one_won _ (winners 3) (are 3) in
    let w4 = one_won _ (winners 4) (are 4) in
    let w5 = one_won _ (winners 5) (are 5) in
    let w6 = none_won (winners 6) (are 6) in
    let w7 = none_won (winners 7) (are 7) in
    let w8 = one_won _ (winners 8) (are 8) in
    let w11 = none_won (winners 11) (are 11) in
    rw (w1, w2, w3, w4, w5, w6, w7, w8, w11) refl

pub has_fault-body : (attribute : List Decl) → HasFault (sources_with attribute) 0 None
has_fault-body attribute el winners is =
    let k = known (sources_with attribute) 0 el winners the_body [] refl refl is in
    subst (λ x. None ≡ fault_of x.tag [] winners (animations_in (sources_with attribute) winners)) k.0 (body-fault attribute winners k.1)

pub has_fault-box : HasFault Whole 1 None
has_fault-box el winners is =
    let k = known Whole 1 el winners the_div whole_box refl refl is in
    subst (λ x. None ≡ fault_of x.tag [] winners (animations_in Whole winners)) k.0 (box-fault winners k.1)

pub has_fault-low : HasFault (sources_with without_height) 1 (Some not_placed)
has_fault-low el winners is =
    let k = known (sources_with without_height) 1 el winners the_div without_height refl refl is in
    subst (λ x. Some not_placed ≡ fault_of x.tag [] winners (animations_in (sources_with without_height) winners)) k.0 (low-fault winners k.1)

no_fault : (number : ℕ) → number < 2 → HasFault Whole number None
no_fault zero within = has_fault-body whole_box
no_fault (suc zero) within = has_fault-box
no_fault (suc (suc number)) within = absurd (omega arith)

layers : (number : ℕ) (layer : Layer) → slice_get the_scene.layers number ≡ Some layer → HasLayer Whole number layer
layers zero layer there el winners is =
    let k = known Whole 0 el winners the_body [] refl refl is in
    let same : body (Some (opaque_grey 2)) false [] ≡ layer = cc in
    sym same ∙ body-layer winners k.1
layers (suc zero) layer there el winners is =
    let k = known Whole 1 el winners the_div whole_box refl refl is in
    let same : the_box ≡ layer = cc in
    sym same ∙ box-layer winners k.1
layers (suc (suc number)) layer there el winners is = cc

one_box : (k number : ℕ) → k < 1 → slice_index_or (1 ∷ []) k number ≡ number → (1 ≤ number) × (number < 2)
one_box zero number within e = (omega arith, omega arith)
one_box (suc k) number within e = absurd (omega arith)

pub order : IsPaintOrder the_scene.layers (1 ∷ [])
order = record {
  boxes = λ number. (
    (λ c. one_box c.0 number c.1 c.2),
    (λ h. let is : 1 ≡ number = omega (arith, h.0, h.1) in (0, omega arith, is)),
  );
  sorted = λ i j before within. absurd (omega arith);
}

pub scene_is : IsScene Whole the_scene
scene_is = record { no_fault = no_fault; one_each = refl; layers = layers; order = order; sets = refl }

none_before : (before : ℕ) → before < 1 → HasFault (sources_with without_height) before None
none_before zero within = has_fault-body without_height
none_before (suc before) within = absurd (omega arith)

pub fault_is : IsFirstFault (sources_with without_height) 1 not_placed
fault_is = record { element = omega arith; is_fault = has_fault-low; none_before = none_before }

-- the box has winners, so one fault
pub fault_is_not : IsFirstFault Whole 1 not_placed → ⊥
fault_is_not first =
    let winners = (λ (property : ℕ). (winner-exists (of_property property (candidates_of body_rules the_div whole_box))).0) in
    let is : IsElement Whole 1 the_div winners = record {
      is_there = refl;
      inline = whole_box;
      inline_is = refl;
      winners_are = λ property. (winner-exists (of_property property (candidates_of body_rules the_div whole_box))).1;
    } in
    let some = first.is_fault the_div winners is in
    let none = has_fault-box the_div winners is in
    cc
