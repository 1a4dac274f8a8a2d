-- By known states a tint is the one colour that they paint.
use Rattle.std.proofs.Common.{◌≡◌, ℕ, Bool, true, false, ◌&&◌, List, [], ◌∷◌, All, get_or, if◌then◌else◌, arith, refl, ap, ◌∙◌, inl, inr}
use Rattle.std.specs.Prelude.{ℤ, pos, ◌+ℤ◌, int_lt, int_le, min, max, fold, is_some}
use Rattle.std.proofs.lemmas.Bool.{cases_Bool}
use Rattle.std.proofs.lemmas.Int.{ints}
use Rattle.std.proofs.lemmas.List.Elements.{All-contains_itself, All-head, All-tail}
use borrow.Author.Differences.{lt-true, lt-false}
use Rattle.page_model.specs.declared.colour.Rgb.{Rgb}
use Rattle.page_model.specs.declared.colour.Tint.{Tint}
use Rattle.page_model.specs.declared.scene.Scene.{Scene}
use Rattle.page_model.specs.Colour.{blended, body_colour, combined, covers, ground, over, paint_box, painted, spans}
use Rattle.page_model.specs.Enclosure.{LooseState, one_value}
use Rattle.page_model.specs.LayerAt.{State}
use Rattle.page_model.specs.TintOf.{Span, blended_span, both, painted_where, single, span_of, spans_surely, tint_box, tint_ground, tint_of, tint_over}
use Rattle.page_model.specs.Red.{white}
use Rattle.page_model.specs.ValidScene.{IsValid}
use Rattle.frame_state.specs.States.{known, sure_of}
use Rattle.paint_blend.specs.Paint.{AreKnown}

-- one number as a span
abbrev point : ℕ → Span
point n = record { lo = n; hi = n }

min-itself : (n : ℕ) → min n n ≡ n
min-itself n = omega arith

max-itself : (n : ℕ) → max n n ≡ n
max-itself n = omega arith

least-itself : (n : ℕ) → min (min (min n n) (min n n)) (min (min n n) (min n n)) ≡ n
least-itself n = simp min-itself

greatest-itself : (n : ℕ) → max (max (max n n) (max n n)) (max (max n n) (max n n)) ≡ n
greatest-itself n = simp max-itself

blended_span-point : (source alpha backdrop : ℕ) → blended_span (point source) (point alpha) (point backdrop) ≡ point (blended source alpha backdrop)
blended_span-point source alpha backdrop = λ i. record {
  lo = least-itself (blended source alpha backdrop) i;
  hi = greatest-itself (blended source alpha backdrop) i;
}

over-known : (state : State) (alpha : ℕ) (c : Rgb) → tint_over (known state) (point alpha) (single c) ≡ single (over state alpha c)
over-known state alpha c =
    let red = blended_span-point state.red (combined state.cover alpha) c.r in
    let green = blended_span-point state.green (combined state.cover alpha) c.g in
    let blue = blended_span-point state.blue (combined state.cover alpha) c.b in
    λ i. record {
      lo = record { r = (red i).lo; g = (green i).lo; b = (blue i).lo };
      hi = record { r = (red i).hi; g = (green i).hi; b = (blue i).hi };
    }

-- an edge and a size that are known
spans-known : (from size : ℤ) (at : ℕ) → spans_surely (one_value from) (one_value size) at ≡ sure_of (spans from size at)
spans-known from size at =
    elim (cases_Bool (int_lt (pos at) from)) [
      | inl before ↦ rw (before, not_after from at before) refl
      | inr not_before ↦ elim (cases_Bool (int_lt (pos at) (from +ℤ size))) [
        | inl within ↦ rw (not_before, after from at not_before, within, not_past (from +ℤ size) at within) refl
        | inr past ↦ rw (not_before, after from at not_before, past, is_past (from +ℤ size) at past) refl
      ]
    ] where
      not_after : (from : ℤ) (at : ℕ) → int_lt (pos at) from ≡ true → int_le from (pos at) ≡ false
      not_after from at e = let h = lt-true (pos at) from e in grind (arith, ints, h)

      after : (from : ℤ) (at : ℕ) → int_lt (pos at) from ≡ false → int_le from (pos at) ≡ true
      after from at e = let h = lt-false (pos at) from e in grind (arith, ints, h)

      not_past : (end : ℤ) (at : ℕ) → int_lt (pos at) end ≡ true → int_le end (pos at) ≡ false
      not_past end at e = let h = lt-true (pos at) end e in grind (arith, ints, h)

      is_past : (end : ℤ) (at : ℕ) → int_lt (pos at) end ≡ false → int_le end (pos at) ≡ true
      is_past end at e = let h = lt-false (pos at) end e in grind (arith, ints, h)

both-known : (p q : Bool) → both (sure_of p) (sure_of q) ≡ sure_of (p && q)
both-known true q = refl
both-known false q = refl

painted-known : (shown : Bool) (above backdrop : Rgb) → painted_where (sure_of shown) (single above) (single backdrop) ≡ single (if shown then above else backdrop)
painted-known true above backdrop = refl
painted-known false above backdrop = refl

-- a box, the ground, and all boxes
box-known : (state : State) (column row : ℕ) (c : Rgb)
    → painted_where (both (sure_of state.shown) (both (spans_surely (one_value state.left) (one_value state.width) column) (spans_surely (one_value state.top) (one_value state.height) row)))
    (tint_over (known state) (point state.alpha) (single c)) (single c)
    ≡ single (if state.shown && covers state column row then over state state.alpha c else c)
box-known state column row c =
    rw (
      spans-known state.left state.width column,
      spans-known state.top state.height row,
      both-known (spans state.left state.width column) (spans state.top state.height row),
      both-known state.shown (covers state column row),
      over-known state state.alpha c,
    )
    (painted-known (state.shown && covers state column row) (over state state.alpha c) c)

tint_box-known : (loose : ℕ → LooseState) (states : ℕ → State) (column row : ℕ) (c : Rgb) (number : ℕ) → loose number ≡ known (states number)
    → tint_box loose column row (single c) number ≡ single (paint_box states column row c number)
tint_box-known loose states column row c number is =
    ap (λ (state : LooseState). painted_where (both state.shown (both (spans_surely state.left state.width column) (spans_surely state.top state.height row)))
    (tint_over state (span_of state.alpha) (single c)) (single c)) is
    ∙ box-known (states number) column row c

boxes-known : (loose : ℕ → LooseState) (states : ℕ → State) (column row : ℕ) (order : List ℕ) (c : Rgb)
    → All (λ number. loose number ≡ known (states number)) order
    → fold (tint_box loose column row) (single c) order ≡ single (fold (paint_box states column row) c order)
boxes-known loose states column row [] c is = refl
boxes-known loose states column row (number ∷ rest) c is =
    ap (λ (tint : Tint). fold (tint_box loose column row) tint rest)
    (tint_box-known loose states column row c number (All-head (λ n. loose n ≡ known (states n)) number rest is))
    ∙ boxes-known loose states column row rest (paint_box states column row c number) (All-tail (λ n. loose n ≡ known (states n)) number rest is)

ground-known : (scene : Scene) (loose : ℕ → LooseState) (states : ℕ → State) → loose 0 ≡ known (states 0)
    → tint_ground scene loose ≡ single (ground scene states)
ground-known scene loose states is =
    elim (cases_Bool (is_some (body_colour scene))) [
      | inl coloured ↦ rw (coloured, is) (over-known (states 0) 255 white)
      | inr bare ↦ rw bare refl
    ]

pub tint_of-known : (scene : Scene) (loose : ℕ → LooseState) (states : ℕ → State) (column row : ℕ) → IsValid scene → AreKnown scene loose states
    → tint_of scene loose column row ≡ single (painted scene states column row)
tint_of-known scene loose states column row valid is =
    ap (λ (tint : Tint). fold (tint_box loose column row) tint scene.order) (ground-known scene loose states (is 0 (omega (arith, valid.some_layer))))
    ∙ boxes-known loose states column row scene.order (ground scene states)
    (λ k d within. is (get_or scene.order k d) ((valid.order.boxes (get_or scene.order k d)).0 (All-contains_itself scene.order k d within)).1)
