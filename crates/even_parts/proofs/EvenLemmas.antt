-- A part that no edge of a box cuts has one tint.
use Rattle.std.proofs.Common.{ℕ, ℤ, pos, true, false, ◌≡◌, ◌+◌, ◌<◌, ◌≤◌, ◌+ℤ◌, ◌≤ℤ◌, ◌<ℤ◌, ◌∙◌, List, [], ◌∷◌, length, get_or, int_le, int_lt, ap, arith, inl, inr, refl, subst, sym}
use Rattle.std.specs.Prelude.{All, fold}
use Rattle.std.proofs.lemmas.Bool.{cases_lt}
use Rattle.std.proofs.lemmas.Int.{ints, by_lt_z}
use Rattle.std.proofs.lemmas.List.Elements.{All-head, All-tail, All-contains_itself}
use Rattle.page_model.specs.declared.colour.Tint.{Tint}
use Rattle.page_model.specs.declared.scene.Scene.{Scene}
use Rattle.page_model.specs.declared.witness.Part.{Part}
use Rattle.page_model.specs.Enclosure.{Loose, LooseState, Sureness, surely, surely_not, maybe}
use Rattle.page_model.specs.TintOf.{both, painted_where, span_of, spans_surely, tint_box, tint_ground, tint_of, tint_over}
use Rattle.page_model.specs.ValidScene.{IsValid}
use Rattle.page_model.specs.WitnessConditions.{IsOfPart}
use Rattle.frame_state.specs.declared.types.LayerState.{LayerState}
use Rattle.frame_state.specs.States.{state_as, states_as}
use Rattle.frame_state.proofs.ListLemmas.{states_as-there}
use Rattle.even_parts.specs.Even.{AllHaveTint, ArePaintedEvenly, Cuts, CutsNowhere, IsPaintedEvenly, Misses, painted_surely}

-- what a test against a place answers
lt-yes : (x y : ℤ) → x <ℤ y → int_lt x y ≡ true
lt-yes x y h = let e : true ≡ int_lt x y = omega (arith, ints) in sym e

lt-no : (x y : ℤ) → y ≤ℤ x → int_lt x y ≡ false
lt-no x y h = let e : false ≡ int_lt x y = omega (arith, ints) in sym e

le-yes : (x y : ℤ) → x ≤ℤ y → int_le x y ≡ true
le-yes x y h = let e : true ≡ int_le x y = omega (arith, ints) in sym e

le-no : (x y : ℤ) → y <ℤ x → int_le x y ≡ false
le-no x y h = let e : false ≡ int_le x y = omega (arith, ints) in sym e

-- one that doesn't cut some places is tested alike at all of them
lt-even : (t : ℤ) (start extent at : ℕ) → (Cuts t start extent → ⊥) → start ≤ at → at < start + extent → int_lt (pos at) t ≡ int_lt (pos start) t
lt-even t start extent at not low high =
    by_lt_z (pos start) t
    (λ less. by_lt_z (pos at) t
    (λ also. lt-yes (pos at) t also ∙ sym (lt-yes (pos start) t less))
    (λ most. absurd (not (record { behind = less; before = omega (arith, ints) }))))
    (λ most. lt-no (pos at) t (omega (arith, ints)) ∙ sym (lt-no (pos start) t most))

le-even : (t : ℤ) (start extent at : ℕ) → (Cuts t start extent → ⊥) → start ≤ at → at < start + extent → int_le t (pos at) ≡ int_le t (pos start)
le-even t start extent at not low high =
    by_lt_z (pos start) t
    (λ less. by_lt_z (pos at) t
    (λ also. le-no t (pos at) also ∙ sym (le-no t (pos start) less))
    (λ most. absurd (not (record { behind = less; before = omega (arith, ints) }))))
    (λ most. le-yes t (pos at) (omega (arith, ints)) ∙ sym (le-yes t (pos start) most))

-- so a box that cuts them nowhere spans all of them as the first one
spanned-evenly : (from size : Loose) (start extent at : ℕ) → CutsNowhere from size start extent → start ≤ at → at < start + extent
    → spans_surely from size at ≡ spans_surely from size start
spanned-evenly from size start extent at nowhere low high =
    rw (
      lt-even from.lo start extent at nowhere.first_begin low high,
      le-even (from.hi +ℤ size.hi) start extent at nowhere.last_end low high,
      le-even from.hi start extent at nowhere.last_begin low high,
      lt-even (from.lo +ℤ size.lo) start extent at nowhere.first_end low high,
    ) refl

-- and one that misses them spans none
missed : (from size : Loose) (start extent at : ℕ) → Misses from size start extent → start ≤ at → at < start + extent
    → spans_surely from size at ≡ surely_not
missed from size start extent at (inl before) low high = rw (lt-yes (pos at) from.lo (omega (arith, ints))) refl
missed from size start extent at (inr behind) low high =
    by_lt_z (pos at) from.lo
    (λ less. rw (lt-yes (pos at) from.lo less) refl)
    (λ most. rw (lt-no (pos at) from.lo most, le-yes (from.hi +ℤ size.hi) (pos at) (omega (arith, ints))) refl)

-- what surely isn't spanned along one side isn't painted
none-across : (shown other : Sureness) → both shown (both surely_not other) ≡ surely_not
none-across surely other = refl
none-across surely_not other = refl
none-across maybe other = refl

none-down : (shown other : Sureness) → both shown (both other surely_not) ≡ surely_not
none-down surely surely = refl
none-down surely surely_not = refl
none-down surely maybe = refl
none-down surely_not other = refl
none-down maybe surely = refl
none-down maybe surely_not = refl
none-down maybe maybe = refl

-- a part that has a pixel has its first one
first-of : (part : Part) (column row : ℕ) → IsOfPart part column row → IsOfPart part part.x part.y
first-of part column row inside = record {
  right_of = omega arith;
  left_of = omega (arith, inside.right_of, inside.left_of);
  below = omega arith;
  above = omega (arith, inside.below, inside.above);
}

-- a box is painted evenly that misses the part along a side, or that cuts it nowhere
pub across-evenly : (state : LooseState) (part : Part) → Misses state.left state.width part.x part.width → IsPaintedEvenly state part
across-evenly state part misses column row inside =
    let first = first-of part column row inside in
    rw (
      missed state.left state.width part.x part.width column misses inside.right_of inside.left_of,
      missed state.left state.width part.x part.width part.x misses first.right_of first.left_of,
    ) (none-across state.shown (spans_surely state.top state.height row)
    ∙ sym (none-across state.shown (spans_surely state.top state.height part.y)))

pub down-evenly : (state : LooseState) (part : Part) → Misses state.top state.height part.y part.height → IsPaintedEvenly state part
down-evenly state part misses column row inside =
    let first = first-of part column row inside in
    rw (
      missed state.top state.height part.y part.height row misses inside.below inside.above,
      missed state.top state.height part.y part.height part.y misses first.below first.above,
    ) (none-down state.shown (spans_surely state.left state.width column)
    ∙ sym (none-down state.shown (spans_surely state.left state.width part.x)))

pub both-evenly : (state : LooseState) (part : Part) → CutsNowhere state.left state.width part.x part.width
    → CutsNowhere state.top state.height part.y part.height → IsPaintedEvenly state part
both-evenly state part across down column row inside =
    rw (
      spanned-evenly state.left state.width part.x part.width column across inside.right_of inside.left_of,
      spanned-evenly state.top state.height part.y part.height row down inside.below inside.above,
    ) refl

-- one box more
pub even-more : (states : List LayerState) (number : ℕ) (part : Part) (d : LayerState) → number < length states
    → ArePaintedEvenly (states_as states) number part → IsPaintedEvenly (state_as (get_or states number d)) part
    → ArePaintedEvenly (states_as states) (number + 1) part
even-more states number part d within before here other some below =
    elim (cases_lt other number) [
      | inl earlier ↦ before other some earlier
      | inr later ↦
          let at : number ≡ other = omega arith in
          subst (λ (n : ℕ). IsPaintedEvenly (states_as states n) part) at
          (subst (λ (state : LooseState). IsPaintedEvenly state part) (sym (states_as-there states number d within)) here)
    ]

-- boxes that are painted as surely at two pixels give both the same tint
boxes-even : (states : ℕ → LooseState) (column row other_column other_row : ℕ) (order : List ℕ) (tint : Tint)
    → All (λ number. painted_surely (states number) column row ≡ painted_surely (states number) other_column other_row) order
    → fold (tint_box states column row) tint order ≡ fold (tint_box states other_column other_row) tint order
boxes-even states column row other_column other_row [] tint are = refl
boxes-even states column row other_column other_row (number ∷ rest) tint are =
    let Even : ℕ → Type 0 = λ n. painted_surely (states n) column row ≡ painted_surely (states n) other_column other_row in
    ap (λ (s : Sureness).
    fold (tint_box states column row) (painted_where s (tint_over (states number) (span_of (states number).alpha) tint) tint) rest)
    (All-head Even number rest are)
    ∙ boxes-even states column row other_column other_row rest (tint_box states other_column other_row tint number) (All-tail Even number rest are)

-- so where all boxes are painted evenly, all pixels of the part have the tint of the first one
pub tint-even : (scene : Scene) (states : ℕ → LooseState) (part : Part) (tint : Tint) → IsValid scene
    → ArePaintedEvenly states (length scene.layers) part → tint_of scene states part.x part.y ≡ tint
    → AllHaveTint (tint_of scene states) part tint
tint-even scene states part tint valid even first column row inside =
    boxes-even states column row part.x part.y scene.order (tint_ground scene states)
    (λ k d within.
    let box = (valid.order.boxes (get_or scene.order k d)).0 (All-contains_itself scene.order k d within) in
    even (get_or scene.order k d) box.0 box.1 column row inside)
    ∙ first
