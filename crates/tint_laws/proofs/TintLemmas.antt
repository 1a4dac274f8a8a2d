-- Proofs of the laws of tints.
use Rattle.std.proofs.Common.{◌≡◌, ℕ, ◌≤◌, Bool, true, false, ◌&&◌, List, [], ◌∷◌, get_or, refl, inl, inr, arith}
use Rattle.std.specs.Prelude.{ℤ, pos, negsuc, ◌+ℤ◌, ◌≤ℤ◌, ◌<ℤ◌, int_lt, int_le, min, max, fold, All, is_some, if◌then◌else◌}
use Rattle.std.proofs.lemmas.Bool.{cases_Bool}
use Rattle.std.proofs.lemmas.Int.{ints}
use Rattle.std.proofs.lemmas.List.Elements.{All-contains_itself, All-head, All-tail}
use borrow.Author.Differences.{lt-true, lt-false, le-true, le-false}
use Rattle.page_model.specs.declared.colour.Rgb.{Rgb}
use Rattle.page_model.specs.declared.colour.Tint.{Tint}
use Rattle.page_model.specs.declared.scene.Scene.{Scene}
use Rattle.page_model.specs.Colour.{spans, combined, covers, over, paint_box, ground, body_colour}
use Rattle.page_model.specs.Enclosure.{Loose, LooseState, Sureness, surely, surely_not, maybe}
use Rattle.page_model.specs.LayerAt.{State}
use Rattle.page_model.specs.Progress.{above_zero}
use Rattle.page_model.specs.Red.{white}
use Rattle.page_model.specs.TintOf.{Span, both, spans_surely, covers_surely, span_of, combined_span, full_alpha, single, red_span, green_span, blue_span, tint_over, tint_hull, painted_where, tint_box, tint_ground}
use Rattle.curve_laws.specs.SlotLaws.{IsWithin, Agrees}
use Rattle.flash_laws.specs.SureLaws.{IsOf}
use Rattle.tint_laws.specs.TintLaws.{StateWithin, TintsHoldColours}
use Rattle.tint_laws.proofs.BlendLemmas.{IsIn, blended-in, combined-in, combined-small}

-- a loose channel as a span
in-span : (loose : Loose) (n : ℕ) → IsWithin loose (pos n) → IsIn (span_of loose) n
in-span loose n within = record { least = low loose.lo n within.at_least; most = high loose.hi n within.at_most } where
  low : (z : ℤ) (n : ℕ) → z ≤ℤ pos n → above_zero z ≤ n
  low (pos z) n order = omega (arith, ints, order)
  low (negsuc z) n order = omega arith

  high : (z : ℤ) (n : ℕ) → pos n ≤ℤ z → n ≤ above_zero z
  high (pos z) n order = omega (arith, ints, order)
  high (negsuc z) n order = absurd (omega (arith, ints, order))

pub alpha-within : (loose : Loose) → loose.hi ≤ℤ pos 255 → (span_of loose).hi ≤ 255
alpha-within loose order = high loose.hi order where
  high : (z : ℤ) → z ≤ℤ pos 255 → above_zero z ≤ 255
  high (pos z) order = omega (arith, ints, order)
  high (negsuc z) order = omega arith

-- a colour over another
over-of : (loose : LooseState) (state : State) (alpha : Span) (a : ℕ) (backdrop : Tint) (c : Rgb) → StateWithin loose state → IsIn alpha a
    → alpha.hi ≤ 255 → IsOf backdrop c → IsOf (tint_over loose alpha backdrop) (over state a c)
over-of loose state alpha a backdrop c within inside small is =
    let both : Span = combined_span (span_of loose.cover) alpha in
    let all : ℕ = combined state.cover a in
    let opaque = combined-small (span_of loose.cover).hi alpha.hi (alpha-within loose.cover within.solid) small in
    let shares = combined-in (span_of loose.cover) alpha state.cover a (in-span loose.cover state.cover within.cover) inside in
    let red = blended-in (span_of loose.red) both (red_span backdrop) state.red all c.r opaque (in-span loose.red state.red within.red) shares (record { least = is.red_least; most = is.red_most }) in
    let green = blended-in (span_of loose.green) both (green_span backdrop) state.green all c.g opaque (in-span loose.green state.green within.green) shares (record { least = is.green_least; most = is.green_most }) in
    let blue = blended-in (span_of loose.blue) both (blue_span backdrop) state.blue all c.b opaque (in-span loose.blue state.blue within.blue) shares (record { least = is.blue_least; most = is.blue_most }) in
    record {
      red_least = red.least;
      red_most = red.most;
      green_least = green.least;
      green_most = green.most;
      blue_least = blue.least;
      blue_most = blue.most;
    }

-- what lies in one of two tints lies in their hull
pub hull-first : (a b : Tint) (c : Rgb) → IsOf a c → IsOf (tint_hull a b) c
hull-first a b c is = record {
  red_least = low a.lo.r b.lo.r c.r is.red_least;
  red_most = high a.hi.r b.hi.r c.r is.red_most;
  green_least = low a.lo.g b.lo.g c.g is.green_least;
  green_most = high a.hi.g b.hi.g c.g is.green_most;
  blue_least = low a.lo.b b.lo.b c.b is.blue_least;
  blue_most = high a.hi.b b.hi.b c.b is.blue_most;
} where
  low : (x y n : ℕ) → x ≤ n → min x y ≤ n
  low x y n order = omega (arith, order)

  high : (x y n : ℕ) → n ≤ x → n ≤ max x y
  high x y n order = omega (arith, order)

pub hull-second : (a b : Tint) (c : Rgb) → IsOf b c → IsOf (tint_hull a b) c
hull-second a b c is = record {
  red_least = low a.lo.r b.lo.r c.r is.red_least;
  red_most = high a.hi.r b.hi.r c.r is.red_most;
  green_least = low a.lo.g b.lo.g c.g is.green_least;
  green_most = high a.hi.g b.hi.g c.g is.green_most;
  blue_least = low a.lo.b b.lo.b c.b is.blue_least;
  blue_most = high a.hi.b b.hi.b c.b is.blue_most;
} where
  low : (x y n : ℕ) → y ≤ n → min x y ≤ n
  low x y n order = omega (arith, order)

  high : (x y n : ℕ) → n ≤ y → n ≤ max x y
  high x y n order = omega (arith, order)

-- an interval of whole numbers
not_spans : (from size : ℤ) (at : ℕ) → (from ≤ℤ pos at → pos at <ℤ (from +ℤ size) → ⊥) → spans from size at ≡ false
not_spans from size at never =
    elim (cases_Bool (int_le from (pos at))) [
      | inr before ↦ rw before refl
      | inl after ↦ elim (cases_Bool (int_lt (pos at) (from +ℤ size))) [
        | inr past ↦ rw (after, past) refl
        | inl within ↦ absurd (never (omega (arith, ints, le-true from (pos at) after)) (omega (arith, ints, lt-true (pos at) (from +ℤ size) within)))
      ]
    ]

does_span : (from size : ℤ) (at : ℕ) → from ≤ℤ pos at → pos at <ℤ (from +ℤ size) → spans from size at ≡ true
does_span from size at after within =
    elim (cases_Bool (int_le from (pos at))) [
      | inr before ↦ let h = le-false from (pos at) before in absurd (omega (arith, ints, h, after))
      | inl first ↦ elim (cases_Bool (int_lt (pos at) (from +ℤ size))) [
        | inr past ↦ let h = lt-false (pos at) (from +ℤ size) past in absurd (omega (arith, ints, h, within))
        | inl second ↦ rw (first, second) refl
      ]
    ]

misses : (shown : Bool) → shown ≡ false → Agrees surely_not shown
misses shown is = rw is tt

hits : (shown : Bool) → shown ≡ true → Agrees surely shown
hits shown is = rw is tt

spans-agree : (from size : Loose) (left width : ℤ) (at : ℕ) → IsWithin from left → IsWithin size width
    → Agrees (spans_surely from size at) (spans left width at)
spans-agree from size left width at first second =
    let left_low = first.at_least in
    let left_high = first.at_most in
    let width_low = second.at_least in
    let width_high = second.at_most in
    elim (cases_Bool (int_lt (pos at) from.lo)) [
      | inl before ↦
          let h = lt-true (pos at) from.lo before in
          rw before (misses (spans left width at) (not_spans left width at (λ p q. omega (arith, ints, h, p, left_low))))
      | inr not_before ↦ elim (cases_Bool (int_le (from.hi +ℤ size.hi) (pos at))) [
        | inl past ↦
            let h = le-true (from.hi +ℤ size.hi) (pos at) past in
            rw (not_before, past) (misses (spans left width at) (not_spans left width at (λ p q. omega (arith, ints, h, q, left_high, width_high))))
        | inr not_past ↦ elim (cases_Bool (int_le from.hi (pos at))) [
          | inr early ↦ rw (not_before, not_past, early) tt
          | inl after ↦ elim (cases_Bool (int_lt (pos at) (from.lo +ℤ size.lo))) [
            | inr late ↦ rw (not_before, not_past, after, late) tt
            | inl within ↦
                let h = le-true from.hi (pos at) after in
                let k = lt-true (pos at) (from.lo +ℤ size.lo) within in
                rw (not_before, not_past, after, within) (hits (spans left width at) (does_span left width at (omega (arith, ints, h, left_high)) (omega (arith, ints, k, left_low, width_low))))
          ]
        ]
      ]
    ]

both-agree : (x y : Sureness) (p q : Bool) → Agrees x p → Agrees y q → Agrees (both x y) (p && q)
both-agree surely y true q first second = second
both-agree surely y false q first second = absurd first
both-agree surely_not y true q first second = absurd first
both-agree surely_not y false q first second = tt
both-agree maybe surely p q first second = tt
both-agree maybe surely_not p true first second = absurd second
both-agree maybe surely_not true false first second = tt
both-agree maybe surely_not false false first second = tt
both-agree maybe maybe p q first second = tt

-- a box, painted or not
painted-of : (sure : Sureness) (shown : Bool) (above backdrop : Tint) (c d : Rgb) → Agrees sure shown → IsOf above c → IsOf backdrop d
    → IsOf (painted_where sure above backdrop) (if shown then c else d)
painted-of surely true above backdrop c d agrees first second = first
painted-of surely false above backdrop c d agrees first second = absurd agrees
painted-of surely_not true above backdrop c d agrees first second = absurd agrees
painted-of surely_not false above backdrop c d agrees first second = second
painted-of maybe true above backdrop c d agrees first second = hull-first above backdrop c first
painted-of maybe false above backdrop c d agrees first second = hull-second above backdrop d second

box-of : (loose : ℕ → LooseState) (states : ℕ → State) (column row : ℕ) (backdrop : Tint) (c : Rgb) (box : ℕ)
    → StateWithin (loose box) (states box) → IsOf backdrop c
    → IsOf (tint_box loose column row backdrop box) (paint_box states column row c box)
box-of loose states column row backdrop c box within is =
    let across = spans-agree (loose box).left (loose box).width (states box).left (states box).width column within.left within.width in
    let down = spans-agree (loose box).top (loose box).height (states box).top (states box).height row within.top within.height in
    let covered = both-agree (spans_surely (loose box).left (loose box).width column) (spans_surely (loose box).top (loose box).height row) (spans (states box).left (states box).width column) (spans (states box).top (states box).height row) across down in
    painted-of (both (loose box).shown (covers_surely (loose box) column row)) ((states box).shown && covers (states box) column row) (tint_over (loose box) (span_of (loose box).alpha) backdrop) backdrop (over (states box) (states box).alpha c) c
    (both-agree (loose box).shown (covers_surely (loose box) column row) (states box).shown (covers (states box) column row) within.shown covered)
    (over-of (loose box) (states box) (span_of (loose box).alpha) (states box).alpha backdrop c within
    (in-span (loose box).alpha (states box).alpha within.alpha) (alpha-within (loose box).alpha within.opaque) is) is

-- the ground
itself-of : (c : Rgb) → IsOf (record { lo = c; hi = c }) c
itself-of c = record {
  red_least = omega arith;
  red_most = omega arith;
  green_least = omega arith;
  green_most = omega arith;
  blue_least = omega arith;
  blue_most = omega arith;
}

ground-of : (scene : Scene) (loose : ℕ → LooseState) (states : ℕ → State) → StateWithin (loose 0) (states 0)
    → IsOf (tint_ground scene loose) (ground scene states)
ground-of scene loose states within =
    elim (cases_Bool (is_some (body_colour scene))) [
      | inl coloured ↦ rw coloured (over-of (loose 0) (states 0) full_alpha 255 (single white) white within
          (record { least = omega arith; most = omega arith }) (omega arith) (itself-of white))
      | inr bare ↦ rw bare (itself-of white)
    ]

-- all boxes, one after another
boxes-of : (loose : ℕ → LooseState) (states : ℕ → State) (column row : ℕ) (order : List ℕ) (backdrop : Tint) (c : Rgb)
    → All (λ box. StateWithin (loose box) (states box)) order → IsOf backdrop c
    → IsOf (fold (tint_box loose column row) backdrop order) (fold (paint_box states column row) c order)
boxes-of loose states column row [] backdrop c within is = is
boxes-of loose states column row (box ∷ rest) backdrop c within is =
    boxes-of loose states column row rest (tint_box loose column row backdrop box) (paint_box states column row c box)
    (All-tail (λ box. StateWithin (loose box) (states box)) box rest within)
    (box-of loose states column row backdrop c box (All-head (λ box. StateWithin (loose box) (states box)) box rest within) is)

pub tints_hold_colours : TintsHoldColours
tints_hold_colours scene valid loose states within column row =
    boxes-of loose states column row scene.order (tint_ground scene loose) (ground scene states)
    (λ k d below. within (get_or scene.order k d) ((valid.order.boxes (get_or scene.order k d)).0 (All-contains_itself scene.order k d below)).1)
    (ground-of scene loose states (within 0 (valid.some_layer)))
