-- Which layers changed, and that a pixel which misses them by both states has the same tint.
use Rattle.std.proofs.Common.{◌≡◌, ◌≢◌, ◌∙◌, ℕ, ◌+◌, ◌<◌, List, [], ◌∷◌, ◌++◌, Some, length, get_or, slice_get, if◌then◌else◌, option_map, unwrap_or, ap, arith, inl, inr, refl, subst, sym}
use Rattle.std.specs.Prelude.{All, Contains, fold, is_some}
use Rattle.std.proofs.lemmas.Bool.{cases_eq}
use Rattle.std.proofs.lemmas.List.Elements.{All-contains, All-contains_itself, All-head, All-push, All-tail, Contains-append_left, Contains-push}
use Rattle.std.proofs.lemmas.Option.{slice_get-get_or}
use Rattle.page_model.specs.declared.colour.Tint.{Tint}
use Rattle.page_model.specs.declared.scene.Scene.{Scene}
use Rattle.page_model.specs.Colour.{body_colour}
use Rattle.page_model.specs.Enclosure.{LooseState}
use Rattle.page_model.specs.Red.{white}
use Rattle.page_model.specs.TintOf.{full_alpha, painted_where, single, span_of, tint_box, tint_ground, tint_of, tint_over}
use Rattle.page_model.specs.ValidScene.{IsValid}
use Rattle.frame_state.specs.declared.types.LayerState.{LayerState}
use Rattle.frame_state.specs.States.{nothing, state_as, states_as}
use Rattle.paint_blend.specs.Kept.{AreChanged, AreChangedBelow, HaveSameColour, HaveSamePlace, IsChanged, MissesBoth}
use Rattle.paint_blend.specs.Paint.{IsMissed}

-- the next layer has the state that it had
pub changed-same : (before now : List LayerState) (changed : List ℕ) (i : ℕ) → AreChangedBelow before now i changed
    → slice_get before i ≡ slice_get now i → AreChangedBelow before now (i + 1) changed
changed-same before now changed i are same = record {
  all = λ number below. elim (cases_eq number i) [
    | inl here ↦ inr (subst (λ n. slice_get before n ≡ slice_get now n) (sym here) same)
    | inr apart ↦ are.all number (omega (arith, below, apart))
  ];
  only = are.only;
}

-- or it hasn't, and is written
pub changed-more : (before now : List LayerState) (changed : List ℕ) (i : ℕ) → AreChangedBelow before now i changed
    → i < length now → slice_get before i ≢ slice_get now i → AreChangedBelow before now (i + 1) (changed ++ i ∷ [])
changed-more before now changed i are there differs = record {
  all = λ number below. elim (cases_eq number i) [
    | inl here ↦ inl (subst (Contains (changed ++ i ∷ [])) (sym here) (Contains-push changed i))
    | inr apart ↦ elim (are.all number (omega (arith, below, apart))) [
      | inl listed ↦ inl (Contains-append_left changed (i ∷ []) number listed)
      | inr same ↦ inr same
    ]
  ];
  only = All-push (IsChanged before now) changed i are.only (record { there = there; differs = differs });
}

-- by the elements
pub same-there : (before now : List LayerState) (i : ℕ) (d e : LayerState) → length before ≡ length now → i < length now
    → get_or before i d ≡ get_or now i e → slice_get before i ≡ slice_get now i
same-there before now i d e long there same =
    slice_get-get_or before i d (omega (arith, long, there)) ∙ ap Some same ∙ sym (slice_get-get_or now i e there)

pub differ-there : (before now : List LayerState) (i : ℕ) (d e : LayerState) → length before ≡ length now
    → i < length now
    → get_or before i d ≢ get_or now i e → slice_get before i ≢ slice_get now i
differ-there before now i d e long there differs same =
    let first = slice_get-get_or before i d (omega (arith, long, there)) in
    let second = slice_get-get_or now i e there in
    let both : Some (get_or before i d) ≡ Some (get_or now i e) = sym first ∙ same ∙ second in
    differs (ap (λ o. unwrap_or o d) both)

-- a box that is missed changes nothing
missed-box : (states : ℕ → LooseState) (column row : ℕ) (tint : Tint) (number : ℕ) → IsMissed (states number) column row
    → tint_box states column row tint number ≡ tint
missed-box states column row tint number missed =
    ap (λ shown. painted_where shown (tint_over (states number) (span_of (states number).alpha) tint) tint) missed

-- by two lists of states a box changes a tint alike
abbrev AreAlike : List LayerState → List LayerState → ℕ → ℕ → ℕ → Type 0
AreAlike before now column row number =
    (tint : Tint) → tint_box (states_as now) column row tint number ≡ tint_box (states_as before) column row tint number

boxes-alike : (before now : List LayerState) (column row : ℕ) (order : List ℕ) (tint : Tint)
    → All (AreAlike before now column row) order
    → fold (tint_box (states_as now) column row) tint order ≡ fold (tint_box (states_as before) column row) tint order
boxes-alike before now column row [] tint are = refl
boxes-alike before now column row (number ∷ rest) tint are =
    ap (λ (t : Tint). fold (tint_box (states_as now) column row) t rest) (All-head (AreAlike before now column row) number rest are tint)
    ∙ boxes-alike before now column row rest (tint_box (states_as before) column row tint number)
    (All-tail (AreAlike before now column row) number rest are)

same-state : (before now : List LayerState) (number : ℕ) → slice_get before number ≡ slice_get now number
    → states_as now number ≡ states_as before number
same-state before now number same = ap (λ o. unwrap_or (option_map state_as o) nothing) (sym same)

box-alike : (before now : List LayerState) (changed : List ℕ) (column row number : ℕ) → AreChanged before now changed
    → All (MissesBoth before now column row) changed → number < length now → AreAlike before now column row number
box-alike before now changed column row number are missed there tint =
    elim (are.all number there) [
      | inl listed ↦
          let misses = All-contains (MissesBoth before now column row) changed number missed listed in
          missed-box (states_as now) column row tint number misses.later
          ∙ sym (missed-box (states_as before) column row tint number misses.earlier)
      | inr same ↦
          ap (λ (state : LooseState). tint_box (λ n. state) column row tint number) (same-state before now number same)
    ]

-- the body isn't one of them
body-alike : (before now : List LayerState) (changed : List ℕ) (column row : ℕ) → AreChanged before now changed
    → All (MissesBoth before now column row) changed → 0 < length now → states_as now 0 ≡ states_as before 0
body-alike before now changed column row are missed there =
    elim (are.all 0 there) [
      | inl listed ↦
          absurd (let misses = All-contains (MissesBoth before now column row) changed 0 missed listed in let box = misses.box in omega (arith, box))
      | inr same ↦ same-state before now 0 same
    ]

pub tint-kept : (scene : Scene) (before now : List LayerState) (changed : List ℕ) (column row : ℕ)
    → AreChanged before now changed
    → All (MissesBoth before now column row) changed → IsValid scene → length now ≡ length scene.layers
    → tint_of scene (states_as now) column row ≡ tint_of scene (states_as before) column row
tint-kept scene before now changed column row are missed valid long =
    ap (λ (state : LooseState).
    fold (tint_box (states_as now) column row)
    (if is_some (body_colour scene) then tint_over state full_alpha (single white) else single white) scene.order)
    (body-alike before now changed column row are missed (let some = valid.some_layer in omega (arith, some, long)))
    ∙ boxes-alike before now column row scene.order (tint_ground scene (states_as before))
    (λ k d within.
    let box = (valid.order.boxes (get_or scene.order k d)).0 (All-contains_itself scene.order k d within) in
    box-alike before now changed column row (get_or scene.order k d) are missed (omega (arith, box.1, long)))

-- states with the same parts are the same
pub state-same : (first second : LayerState) → HaveSameColour first second → HaveSamePlace first second
    → first.shown ≡ second.shown → first ≡ second
state-same first second colour place shown =
    λ i. record {
      shown = shown i;
      r = colour.red i;
      g = colour.green i;
      b = colour.blue i;
      cover = colour.cover i;
      alpha = colour.alpha i;
      left = place.left i;
      top = place.top i;
      width = place.width i;
      height = place.height i;
    }
