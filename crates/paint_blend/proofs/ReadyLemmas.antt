-- The states that are read are those of layers with a colour.
use Rattle.std.proofs.Common.{◌≡◌, ℕ, ◌<◌, ◌≤◌, true, List, Option, Some, None, get_or, length, slice_get, drop, take, ◌+◌, ◌-◌, is_some, IsSome, arith, refl, sym, ap, ◌∙◌, subst, inl, inr}
use Rattle.std.specs.Prelude.{fold}
use Rattle.std.proofs.lemmas.List.Sums.{fold_more}
use Rattle.std.proofs.lemmas.List.Elements.{All-contains_itself, All-drop, All-take}
use Rattle.std.proofs.lemmas.Option.{option_and_then_some, slice_get_cases}
use Rattle.page_model.specs.declared.colour.Tint.{Tint}
use Rattle.page_model.specs.declared.scene.Layer.{Layer}
use Rattle.page_model.specs.declared.scene.Scene.{Scene}
use Rattle.page_model.specs.declared.setup.Setup.{Setup}
use Rattle.page_model.specs.Colour.{body_colour}
use Rattle.page_model.specs.Enclosure.{LooseState}
use Rattle.page_model.specs.LayerAt.{State}
use Rattle.page_model.specs.TintOf.{tint_box}
use Rattle.page_model.specs.ValidScene.{IsValid}
use Rattle.frame_state.specs.declared.types.LayerState.{LayerState}
use Rattle.frame_state.specs.States.{AreExact, IsInSlots, state_as, states_as}
use Rattle.frame_state.proofs.ListLemmas.{states_as-there}
use Rattle.paint_blend.specs.Paint.{AreKnown, AreReady, AreReadyBoxes, AreStates, IsReadyBox, box_over}

some_there : {X : Type 0} (o : Option X) → is_some o ≡ true → (x : X) × (o ≡ Some x)
some_there None e = absurd (cc)
some_there (Some x) e = (x, refl)

is_some-there : {X : Type 0} (o : Option X) (x : X) → o ≡ Some x → IsSome o
is_some-there o x e = rw e refl

-- the body's, where it has a colour
pub ground-ready : (scene : Scene) (states : List LayerState) (d : LayerState) → length states ≡ length scene.layers → 1 ≤ length scene.layers
    → AreReady scene (states_as states) → is_some (body_colour scene) ≡ true → IsInSlots (state_as (get_or states 0 d))
ground-ready scene states d same some ready coloured =
    let colour = some_there (body_colour scene) coloured in
    option_and_then_some (λ (body : Layer). body.colour) (slice_get scene.layers 0) colour.0 colour.1
    (λ body body_is colour_is.
    subst IsInSlots (states_as-there states 0 d (omega arith)) (ready 0 body body_is (is_some-there body.colour colour.0 colour_is)))

-- and those of the boxes
boxes-ready : (scene : Scene) (states : List LayerState) → IsValid scene → length states ≡ length scene.layers
    → AreReady scene (states_as states) → AreReadyBoxes states scene.order
boxes-ready scene states valid same ready i d within =
    let number : ℕ = get_or scene.order i d in
    let box = (valid.order.boxes number).0 (All-contains_itself scene.order i d within) in
    let inside : number < length scene.layers = box.1 in
    record {
      there = omega (arith, inside);
      ready = elim (slice_get_cases scene.layers number).1 [
        | inl found ↦ ready number found.0 found.2 (valid.boxes number found.0 box.0 found.2)
        | inr past ↦ absurd (let far = past.0 in omega arith)
      ];
    }

-- of boxes that are those of the paint order
pub order-ready : (scene : Scene) (states : List LayerState) (boxes : List ℕ) → boxes ≡ scene.order → IsValid scene
    → length states ≡ length scene.layers → AreReady scene (states_as states) → AreReadyBoxes states boxes
order-ready scene states boxes are valid same ready =
    subst (AreReadyBoxes states) (sym are) (boxes-ready scene states valid same ready)

-- and of those from a place up to an end
pub part-ready : (states : List LayerState) (boxes part : List ℕ) (first end : ℕ) → part ≡ take (end - first) (drop first boxes)
    → AreReadyBoxes states boxes → AreReadyBoxes states part
part-ready states boxes part first end are ready =
    subst (AreReadyBoxes states) (sym are)
    (All-take (IsReadyBox states) (end - first) (drop first boxes) (All-drop (IsReadyBox states) first boxes ready))

pub state-ready : (states : List LayerState) (number : ℕ) (d : LayerState) → IsReadyBox states number
    → IsInSlots (state_as (get_or states number d))
state-ready states number d is = subst IsInSlots (states_as-there states number d is.there) is.ready

-- the tint after one more box
pub box-more : (states : List LayerState) (boxes : List ℕ) (x y i : ℕ) (d : LayerState) (under before next : Tint)
    → AreReadyBoxes states boxes → i < length boxes
    → before ≡ fold (tint_box (states_as states) x y) under (take i boxes)
    → next ≡ box_over (state_as (get_or states (get_or boxes i 0) d)) x y before
    → next ≡ fold (tint_box (states_as states) x y) under (take (i + 1) boxes)
box-more states boxes x y i d under before next are within is painted =
    let number : ℕ = get_or boxes i 0 in
    painted
    ∙ ap (λ (state : LooseState). box_over state x y before) (sym (states_as-there states number d (are i 0 within).there))
    ∙ ap (λ (tint : Tint). tint_box (states_as states) x y tint number) is
    ∙ sym (fold_more (tint_box (states_as states) x y) under boxes i 0 within)

-- the exact states are known ones
pub exact-known : (scene : Scene) (setup : Setup) (frame : ℕ) (loose : ℕ → LooseState) (states : ℕ → State) → AreExact scene setup frame loose
    → AreStates scene setup frame states → AreKnown scene loose states
exact-known scene setup frame loose states exact are number within =
    elim (slice_get_cases scene.layers number).1 [
      | inl found ↦ exact number found.0 (states number) found.2 (are number found.0 found.2)
      | inr past ↦ absurd (let far = past.0 in omega arith)
    ]
