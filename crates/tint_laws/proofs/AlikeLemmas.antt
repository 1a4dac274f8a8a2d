-- Two pixels that look alike have one tint: box by box in the paint order.
use Rattle.std.proofs.Common.{◌≡◌, ◌∙◌, ℕ, ◌<◌, List, [], ◌∷◌, length, get_or, if◌then◌else◌, ap, arith, refl}
use Rattle.std.specs.Prelude.{All, fold, is_some}
use Rattle.std.proofs.lemmas.List.Elements.{All-head, All-tail, All-contains_itself}
use Rattle.page_model.specs.declared.colour.Tint.{Tint}
use Rattle.page_model.specs.declared.scene.Scene.{Scene}
use Rattle.page_model.specs.Colour.{body_colour}
use Rattle.page_model.specs.Enclosure.{LooseState, Sureness}
use Rattle.page_model.specs.Red.{white}
use Rattle.page_model.specs.TintOf.{both, covers_surely, full_alpha, painted_where, single, span_of, tint_box, tint_ground, tint_of, tint_over}
use Rattle.page_model.specs.ValidScene.{IsValid}
use Rattle.tint_laws.specs.AlikeLaws.{AlikePixelsHaveOneTint, AreAlike}

-- a state painted where it is shown and covers the pixel
abbrev box_over : LooseState → ℕ → ℕ → Tint → Tint
box_over state column row backdrop =
    painted_where (both state.shown (covers_surely state column row)) (tint_over state (span_of state.alpha) backdrop) backdrop

box-alike : (loose other : LooseState) (column row other_column other_row : ℕ) (tint : Tint)
    → AreAlike loose other column row other_column other_row → box_over loose column row tint ≡ box_over other other_column other_row tint
box-alike loose other column row other_column other_row tint are =
    ap (λ (s : Sureness). painted_where (both loose.shown s) (tint_over loose (span_of loose.alpha) tint) tint) are.alike
    ∙ ap (λ (state : LooseState).
    painted_where (both state.shown (covers_surely other other_column other_row)) (tint_over state (span_of state.alpha) tint) tint) are.same

boxes-alike : (loose other : ℕ → LooseState) (column row other_column other_row : ℕ) (order : List ℕ) (tint : Tint)
    → All (λ number. AreAlike (loose number) (other number) column row other_column other_row) order
    → fold (tint_box loose column row) tint order ≡ fold (tint_box other other_column other_row) tint order
boxes-alike loose other column row other_column other_row [] tint are = refl
boxes-alike loose other column row other_column other_row (number ∷ rest) tint are =
    let Alike : ℕ → Type 0 = λ n. AreAlike (loose n) (other n) column row other_column other_row in
    ap (λ (t : Tint). fold (tint_box loose column row) t rest)
    (box-alike (loose number) (other number) column row other_column other_row tint (All-head Alike number rest are))
    ∙ boxes-alike loose other column row other_column other_row rest (tint_box other other_column other_row tint number) (All-tail Alike number rest are)

-- the pixels have one tint
pub tint-alike : AlikePixelsHaveOneTint
tint-alike scene loose other column row other_column other_row valid are =
    ap (λ (s : LooseState).
    fold (tint_box loose column row)
    (if is_some (body_colour scene) then tint_over s full_alpha (single white) else single white) scene.order) are.body
    ∙ boxes-alike loose other column row other_column other_row scene.order (tint_ground scene other)
    (λ k d within.
    let box = (valid.order.boxes (get_or scene.order k d)).0 (All-contains_itself scene.order k d within) in
    are.boxes (get_or scene.order k d) box.0 box.1)

-- states that are the same, whichever pixel they are asked for, look alike at it
pub tint-same : (scene : Scene) (loose other : ℕ → LooseState) (column row : ℕ) → IsValid scene
    → ((number : ℕ) → number < length scene.layers → loose number ≡ other number) → tint_of scene loose column row ≡ tint_of scene other column row
tint-same scene loose other column row valid same =
    tint-alike scene loose other column row column row valid (record {
      body = same 0 (omega (arith, valid.some_layer));
      boxes = λ number some below. record {
        same = same number below;
        alike = ap (λ (state : LooseState). covers_surely state column row) (same number below);
      };
    })
