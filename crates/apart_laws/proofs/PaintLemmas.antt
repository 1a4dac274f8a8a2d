-- A pixel has one tint by two families of states where each layer has the same state in both, or leaves the backdrop in both.
use Rattle.std.proofs.Common.{◌≡◌, ◌∙◌, ℕ, ◌<◌, ◌≤◌, ◌⊎◌, List, [], ◌∷◌, length, get_or, if◌then◌else◌, ap, inl, inr, refl, sym}
use Rattle.std.specs.Prelude.{All, IsSome, fold, is_some}
use Rattle.std.proofs.lemmas.Bool.{cases_Bool}
use Rattle.std.proofs.lemmas.List.Elements.{All-head, All-tail, All-contains_itself}
use Rattle.page_model.specs.declared.colour.Tint.{Tint}
use Rattle.page_model.specs.declared.scene.Scene.{Scene}
use Rattle.page_model.specs.Colour.{body_colour}
use Rattle.page_model.specs.Enclosure.{LooseState, Sureness, surely_not}
use Rattle.page_model.specs.Red.{white}
use Rattle.page_model.specs.TintOf.{both, covers_surely, full_alpha, painted_where, single, span_of, tint_box, tint_ground, tint_of, tint_over}
use Rattle.page_model.specs.ValidScene.{IsValid}

-- a state leaves the backdrop at a pixel
abbrev pub Leaves : LooseState → ℕ → ℕ → Type 0
Leaves state column row = both state.shown (covers_surely state column row) ≡ surely_not

-- two states are one, or both leave it
abbrev pub PaintsAlike : LooseState → LooseState → ℕ → ℕ → Type 0
PaintsAlike one other column row = (one ≡ other) ⊎ (Leaves one column row × Leaves other column row)

-- so it is with all boxes, and with the body where it has a colour
pub record PaintAlike (scene : Scene) (loose other : ℕ → LooseState) (column row : ℕ) : Type 0 where
  pub body : IsSome (body_colour scene) → loose 0 ≡ other 0
  pub boxes : (number : ℕ) → 1 ≤ number → number < length scene.layers → PaintsAlike (loose number) (other number) column row

-- a state painted where it is shown and covers the pixel
abbrev box_over : LooseState → ℕ → ℕ → Tint → Tint
box_over state column row backdrop =
    painted_where (both state.shown (covers_surely state column row)) (tint_over state (span_of state.alpha) backdrop) backdrop

leaves-tint : (state : LooseState) (column row : ℕ) (tint : Tint) → Leaves state column row → box_over state column row tint ≡ tint
leaves-tint state column row tint leaves =
    ap (λ (s : Sureness). painted_where s (tint_over state (span_of state.alpha) tint) tint) leaves

box-alike : (one other : LooseState) (column row : ℕ) (tint : Tint) → PaintsAlike one other column row
    → box_over one column row tint ≡ box_over other column row tint
box-alike one other column row tint (inl same) = ap (λ (state : LooseState). box_over state column row tint) same
box-alike one other column row tint (inr leave) =
    leaves-tint one column row tint leave.0 ∙ sym (leaves-tint other column row tint leave.1)

boxes-alike : (loose other : ℕ → LooseState) (column row : ℕ) (order : List ℕ) (tint : Tint)
    → All (λ number. PaintsAlike (loose number) (other number) column row) order
    → fold (tint_box loose column row) tint order ≡ fold (tint_box other column row) tint order
boxes-alike loose other column row [] tint are = refl
boxes-alike loose other column row (number ∷ rest) tint are =
    let Alike : ℕ → Type 0 = λ n. PaintsAlike (loose n) (other n) column row in
    ap (λ (t : Tint). fold (tint_box loose column row) t rest)
    (box-alike (loose number) (other number) column row tint (All-head Alike number rest are))
    ∙ boxes-alike loose other column row rest (tint_box other column row tint number) (All-tail Alike number rest are)

ground-alike : (scene : Scene) (loose other : ℕ → LooseState) → (IsSome (body_colour scene) → loose 0 ≡ other 0)
    → tint_ground scene loose ≡ tint_ground scene other
ground-alike scene loose other body =
    elim (cases_Bool (is_some (body_colour scene))) [
      | inl some ↦
          ap (λ (s : LooseState). if is_some (body_colour scene) then tint_over s full_alpha (single white) else single white) (body some)
      | inr none ↦ rw none refl
    ]

-- so the pixel has one tint by both
pub tint-alike : (scene : Scene) (loose other : ℕ → LooseState) (column row : ℕ) → IsValid scene
    → PaintAlike scene loose other column row → tint_of scene loose column row ≡ tint_of scene other column row
tint-alike scene loose other column row valid alike =
    ap (λ (t : Tint). fold (tint_box loose column row) t scene.order) (ground-alike scene loose other alike.body)
    ∙ boxes-alike loose other column row scene.order (tint_ground scene other)
    (λ k d within.
    let box = (valid.order.boxes (get_or scene.order k d)).0 (All-contains_itself scene.order k d within) in
    alike.boxes (get_or scene.order k d) box.0 box.1)
