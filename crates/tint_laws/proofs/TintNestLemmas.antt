-- Proofs that the tint by some loose states lies in that by looser ones.
use Rattle.std.proofs.Common.{◌≡◌, ℕ, ◌≤◌, List, [], ◌∷◌, get_or, refl, inl, inr, arith}
use Rattle.std.specs.Prelude.{ℤ, pos, negsuc, ◌+ℤ◌, ◌≤ℤ◌, ◌<ℤ◌, int_lt, int_le, min, max, fold, All, is_some}
use Rattle.std.proofs.lemmas.Bool.{cases_Bool}
use Rattle.std.proofs.lemmas.Int.{ints}
use Rattle.std.proofs.lemmas.List.Elements.{All-contains_itself, All-head, All-tail}
use borrow.Author.Differences.{lt-true, lt-false, le-true, le-false}
use Rattle.page_model.specs.declared.colour.Rgb.{Rgb}
use Rattle.page_model.specs.declared.colour.Tint.{Tint}
use Rattle.page_model.specs.declared.scene.Scene.{Scene}
use Rattle.page_model.specs.Colour.{body_colour}
use Rattle.page_model.specs.Enclosure.{Loose, LooseState, Sureness, surely, surely_not, maybe}
use Rattle.page_model.specs.Progress.{above_zero}
use Rattle.page_model.specs.Red.{white}
use Rattle.page_model.specs.TintOf.{both, spans_surely, covers_surely, Span, span_of, combined_span, full_alpha, single, tint_by, red_span, green_span, blue_span, tint_over, tint_hull, painted_where, tint_box, tint_ground}
use Rattle.tint_laws.specs.NestLaws.{LiesIn}
use Rattle.curve_laws.specs.SlotLaws.{IsLooser}
use Rattle.flash_laws.specs.SureLaws.{IsOf}
use Rattle.tint_laws.specs.TintLaws.{LooseIn, LooseStateWithin, TintsHoldTints}
use Rattle.tint_laws.proofs.BlendLemmas.{IsIn, SpanIn, blended_span-in, combined-small, combined_span-in}
use Rattle.tint_laws.proofs.TintLemmas.{alpha-within, hull-first, hull-second}

-- loose channels as spans
raised_le : (y z : ℤ) → y ≤ℤ z → above_zero y ≤ above_zero z
raised_le (pos y) (pos z) order = omega (arith, ints, order)
raised_le (pos y) (negsuc z) order = absurd (omega (arith, ints, order))
raised_le (negsuc y) (pos z) order = omega arith
raised_le (negsuc y) (negsuc z) order = omega arith

span-in : (outer inner : Loose) → LooseIn outer inner → SpanIn (span_of outer) (span_of inner)
span-in outer inner lies =
    let least = raised_le outer.lo inner.lo lies.within.least in
    let middle = raised_le inner.lo inner.hi lies.order in
    let most = raised_le inner.hi outer.hi lies.within.greatest in
    record {
      least = record { least = least; most = omega (arith, middle, most) };
      most = record { least = omega (arith, least, middle); most = most };
    }

-- tints by spans
tint-lies : (a b c p q r : Span) → SpanIn a p → SpanIn b q → SpanIn c r → LiesIn (tint_by a b c) (tint_by p q r)
tint-lies a b c p q r red green blue = record {
  least = record {
    red_least = red.least.least;
    red_most = red.least.most;
    green_least = green.least.least;
    green_most = green.least.most;
    blue_least = blue.least.least;
    blue_most = blue.least.most;
  };
  most = record {
    red_least = red.most.least;
    red_most = red.most.most;
    green_least = green.most.least;
    green_most = green.most.most;
    blue_least = blue.most.least;
    blue_most = blue.most.most;
  };
}

over-lies : (outer inner : LooseState) (all some : Span) (a b : Tint) → LooseStateWithin outer inner → SpanIn all some → all.hi ≤ 255
    → LiesIn a b → LiesIn (tint_over outer all a) (tint_over inner some b)
over-lies outer inner all some a b within inside small lies =
    let more : Span = combined_span (span_of outer.cover) all in
    let less : Span = combined_span (span_of inner.cover) some in
    let opaque = combined-small (span_of outer.cover).hi all.hi (alpha-within outer.cover within.solid) small in
    let alpha = combined_span-in (span_of outer.cover) all (span_of inner.cover) some (span-in outer.cover inner.cover within.cover) inside in
    let least = lies.least in
    let most = lies.most in
    tint-lies _ _ _ _ _ _
    (blended_span-in (span_of outer.red) more (red_span a) (span_of inner.red) less (red_span b) opaque (span-in outer.red inner.red within.red) alpha
    (record { least = record { least = least.red_least; most = least.red_most }; most = record { least = most.red_least; most = most.red_most } }))
    (blended_span-in (span_of outer.green) more (green_span a) (span_of inner.green) less (green_span b) opaque (span-in outer.green inner.green within.green) alpha
    (record { least = record { least = least.green_least; most = least.green_most }; most = record { least = most.green_least; most = most.green_most } }))
    (blended_span-in (span_of outer.blue) more (blue_span a) (span_of inner.blue) less (blue_span b) opaque (span-in outer.blue inner.blue within.blue) alpha
    (record { least = record { least = least.blue_least; most = least.blue_most }; most = record { least = most.blue_least; most = most.blue_most } }))

-- hulls
lies-first : (a b c : Tint) → LiesIn a c → LiesIn (tint_hull a b) c
lies-first a b c lies = record { least = hull-first a b c.lo lies.least; most = hull-first a b c.hi lies.most }

lies-second : (a b c : Tint) → LiesIn b c → LiesIn (tint_hull a b) c
lies-second a b c lies = record { least = hull-second a b c.lo lies.least; most = hull-second a b c.hi lies.most }

-- a hull of two that lie in a tint does
hull-lies : (a c d : Tint) → LiesIn a c → LiesIn a d → LiesIn a (tint_hull c d)
hull-lies a c d first second = record {
  least = record {
    red_least = min_least a.lo.r c.lo.r d.lo.r first.least.red_least second.least.red_least;
    red_most = min_most a.hi.r c.lo.r d.lo.r first.least.red_most;
    green_least = min_least a.lo.g c.lo.g d.lo.g first.least.green_least second.least.green_least;
    green_most = min_most a.hi.g c.lo.g d.lo.g first.least.green_most;
    blue_least = min_least a.lo.b c.lo.b d.lo.b first.least.blue_least second.least.blue_least;
    blue_most = min_most a.hi.b c.lo.b d.lo.b first.least.blue_most;
  };
  most = record {
    red_least = max_least a.lo.r c.hi.r d.hi.r first.most.red_least;
    red_most = max_most a.hi.r c.hi.r d.hi.r first.most.red_most second.most.red_most;
    green_least = max_least a.lo.g c.hi.g d.hi.g first.most.green_least;
    green_most = max_most a.hi.g c.hi.g d.hi.g first.most.green_most second.most.green_most;
    blue_least = max_least a.lo.b c.hi.b d.hi.b first.most.blue_least;
    blue_most = max_most a.hi.b c.hi.b d.hi.b first.most.blue_most second.most.blue_most;
  };
} where
  min_least : (n x y : ℕ) → n ≤ x → n ≤ y → n ≤ min x y
  min_least n x y p q = omega (arith, p, q)

  min_most : (n x y : ℕ) → x ≤ n → min x y ≤ n
  min_most n x y p = omega (arith, p)

  max_least : (n x y : ℕ) → n ≤ x → n ≤ max x y
  max_least n x y p = omega (arith, p)

  max_most : (n x y : ℕ) → x ≤ n → y ≤ n → max x y ≤ n
  max_most n x y p q = omega (arith, p, q)

painted-lies : (outer inner : Sureness) (a b c d : Tint) → IsLooser outer inner → LiesIn a c → LiesIn b d
    → LiesIn (painted_where outer a b) (painted_where inner c d)
painted-lies surely surely a b c d looser first second = first
painted-lies surely surely_not a b c d looser first second = absurd looser
painted-lies surely maybe a b c d looser first second = absurd looser
painted-lies surely_not surely a b c d looser first second = absurd looser
painted-lies surely_not surely_not a b c d looser first second = second
painted-lies surely_not maybe a b c d looser first second = absurd looser
painted-lies maybe surely a b c d looser first second = lies-first a b c first
painted-lies maybe surely_not a b c d looser first second = lies-second a b d second
painted-lies maybe maybe a b c d looser first second = hull-lies (tint_hull a b) c d (lies-first a b c first) (lies-second a b d second)

-- where a box is
both-looser : (p q x y : Sureness) → IsLooser p x → IsLooser q y → IsLooser (both p q) (both x y)
both-looser surely q surely y first second = second
both-looser surely q surely_not y first second = absurd first
both-looser surely q maybe y first second = absurd first
both-looser surely_not q surely y first second = absurd first
both-looser surely_not q surely_not y first second = tt
both-looser surely_not q maybe y first second = absurd first
both-looser maybe surely x y first second = tt
both-looser maybe surely_not surely y first second = second
both-looser maybe surely_not surely_not y first second = tt
both-looser maybe surely_not maybe surely first second = absurd second
both-looser maybe surely_not maybe surely_not first second = tt
both-looser maybe surely_not maybe maybe first second = absurd second
both-looser maybe maybe x y first second = tt

-- the four tests of a span, by facts
before_is : (from size : Loose) (at : ℕ) → pos at <ℤ from.lo → spans_surely from size at ≡ surely_not
before_is from size at early =
    elim (cases_Bool (int_lt (pos at) from.lo)) [
      | inl yes_it_is ↦ rw yes_it_is refl
      | inr not_so ↦ let h = lt-false (pos at) from.lo not_so in absurd (omega (arith, ints, h, early))
    ]

past_is : (from size : Loose) (at : ℕ) → (from.hi +ℤ size.hi) ≤ℤ pos at → spans_surely from size at ≡ surely_not
past_is from size at late =
    elim (cases_Bool (int_lt (pos at) from.lo)) [
      | inl early ↦ rw early refl
      | inr not_early ↦ elim (cases_Bool (int_le (from.hi +ℤ size.hi) (pos at))) [
        | inl past ↦ rw (not_early, past) refl
        | inr not_so ↦ let h = le-false (from.hi +ℤ size.hi) (pos at) not_so in absurd (omega (arith, ints, h, late))
      ]
    ]

inside_is : (from size : Loose) (at : ℕ) → from.lo ≤ℤ from.hi → size.lo ≤ℤ size.hi → from.hi ≤ℤ pos at
    → pos at <ℤ (from.lo +ℤ size.lo) → spans_surely from size at ≡ surely
inside_is from size at from_order size_order after within =
    elim (cases_Bool (int_lt (pos at) from.lo)) [
      | inl early ↦ let h = lt-true (pos at) from.lo early in absurd (omega (arith, ints, h, from_order, after))
      | inr not_early ↦ elim (cases_Bool (int_le (from.hi +ℤ size.hi) (pos at))) [
        | inl past ↦ let h = le-true (from.hi +ℤ size.hi) (pos at) past in absurd (omega (arith, ints, h, from_order, size_order, within))
        | inr not_past ↦ elim (cases_Bool (int_le from.hi (pos at))) [
          | inr not_so ↦ let h = le-false from.hi (pos at) not_so in absurd (omega (arith, ints, h, after))
          | inl first ↦ elim (cases_Bool (int_lt (pos at) (from.lo +ℤ size.lo))) [
            | inr not_so ↦ let h = lt-false (pos at) (from.lo +ℤ size.lo) not_so in absurd (omega (arith, ints, h, within))
            | inl second ↦ rw (not_early, not_past, first, second) refl
          ]
        ]
      ]
    ]

not_looser : (inner : Sureness) → inner ≡ surely_not → IsLooser surely_not inner
not_looser inner is = rw is tt

sure_looser : (inner : Sureness) → inner ≡ surely → IsLooser surely inner
sure_looser inner is = rw is tt

spans-looser : (from size left width : Loose) (at : ℕ) → LooseIn from left → LooseIn size width
    → IsLooser (spans_surely from size at) (spans_surely left width at)
spans-looser from size left width at first second =
    let left_low = first.within.least in
    let left_high = first.within.greatest in
    let width_low = second.within.least in
    let width_high = second.within.greatest in
    elim (cases_Bool (int_lt (pos at) from.lo)) [
      | inl before ↦
          let h = lt-true (pos at) from.lo before in
          rw before (not_looser (spans_surely left width at) (before_is left width at (omega (arith, ints, h, left_low))))
      | inr not_before ↦ elim (cases_Bool (int_le (from.hi +ℤ size.hi) (pos at))) [
        | inl past ↦
            let h = le-true (from.hi +ℤ size.hi) (pos at) past in
            rw (not_before, past) (not_looser (spans_surely left width at) (past_is left width at (omega (arith, ints, h, left_high, width_high))))
        | inr not_past ↦ elim (cases_Bool (int_le from.hi (pos at))) [
          | inr early ↦ rw (not_before, not_past, early) tt
          | inl after ↦ elim (cases_Bool (int_lt (pos at) (from.lo +ℤ size.lo))) [
            | inr late ↦ rw (not_before, not_past, after, late) tt
            | inl within ↦
                let h = le-true from.hi (pos at) after in
                let k = lt-true (pos at) (from.lo +ℤ size.lo) within in
                rw (not_before, not_past, after, within) (sure_looser (spans_surely left width at) (inside_is left width at first.order second.order (omega (arith, ints, h, left_high)) (omega (arith, ints, k, left_low, width_low))))
          ]
        ]
      ]
    ]

box-lies : (outer inner : ℕ → LooseState) (column row : ℕ) (a b : Tint) (box : ℕ) → LooseStateWithin (outer box) (inner box) → LiesIn a b
    → LiesIn (tint_box outer column row a box) (tint_box inner column row b box)
box-lies outer inner column row a b box within lies =
    let across = spans-looser (outer box).left (outer box).width (inner box).left (inner box).width column within.left within.width in
    let down = spans-looser (outer box).top (outer box).height (inner box).top (inner box).height row within.top within.height in
    let covered = both-looser (spans_surely (outer box).left (outer box).width column) (spans_surely (outer box).top (outer box).height row) (spans_surely (inner box).left (inner box).width column) (spans_surely (inner box).top (inner box).height row) across down in
    painted-lies (both (outer box).shown (covers_surely (outer box) column row)) (both (inner box).shown (covers_surely (inner box) column row)) (tint_over (outer box) (span_of (outer box).alpha) a) a (tint_over (inner box) (span_of (inner box).alpha) b) b
    (both-looser (outer box).shown (covers_surely (outer box) column row) (inner box).shown (covers_surely (inner box) column row) within.shown covered)
    (over-lies (outer box) (inner box) (span_of (outer box).alpha) (span_of (inner box).alpha) a b within
    (span-in (outer box).alpha (inner box).alpha within.alpha) (alpha-within (outer box).alpha within.opaque) lies) lies

itself-lies : (c : Rgb) → LiesIn (record { lo = c; hi = c }) (record { lo = c; hi = c })
itself-lies c = record { least = itself; most = itself } where
  itself : IsOf (record { lo = c; hi = c }) c
  itself = record {
    red_least = omega arith;
    red_most = omega arith;
    green_least = omega arith;
    green_most = omega arith;
    blue_least = omega arith;
    blue_most = omega arith;
  }

ground-lies : (scene : Scene) (outer inner : ℕ → LooseState) → LooseStateWithin (outer 0) (inner 0)
    → LiesIn (tint_ground scene outer) (tint_ground scene inner)
ground-lies scene outer inner within =
    elim (cases_Bool (is_some (body_colour scene))) [
      | inl coloured ↦ rw coloured (over-lies (outer 0) (inner 0) full_alpha full_alpha (single white) (single white) within
          (record { least = always; most = always }) (omega arith) (itself-lies white))
      | inr bare ↦ rw bare (itself-lies white)
    ]
  where
    always : IsIn full_alpha 255
    always = record { least = omega arith; most = omega arith }

boxes-lie : (outer inner : ℕ → LooseState) (column row : ℕ) (order : List ℕ) (a b : Tint)
    → All (λ box. LooseStateWithin (outer box) (inner box)) order → LiesIn a b
    → LiesIn (fold (tint_box outer column row) a order) (fold (tint_box inner column row) b order)
boxes-lie outer inner column row [] a b within lies = lies
boxes-lie outer inner column row (box ∷ rest) a b within lies =
    boxes-lie outer inner column row rest (tint_box outer column row a box) (tint_box inner column row b box)
    (All-tail (λ box. LooseStateWithin (outer box) (inner box)) box rest within)
    (box-lies outer inner column row a b box (All-head (λ box. LooseStateWithin (outer box) (inner box)) box rest within) lies)

pub tints_hold_tints : TintsHoldTints
tints_hold_tints scene valid outer inner within column row =
    boxes-lie outer inner column row scene.order (tint_ground scene outer) (tint_ground scene inner)
    (λ k d below. within (get_or scene.order k d) ((valid.order.boxes (get_or scene.order k d)).0 (All-contains_itself scene.order k d below)).1)
    (ground-lies scene outer inner (within 0 valid.some_layer))
