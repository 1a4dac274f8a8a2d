-- Where a box may be, by its loose edges, is where it doesn't surely miss.
use Rattle.std.proofs.Common.{ℕ, ℤ, pos, Bool, true, false, ◌≡◌, ◌≢◌, ◌↔◌, ◌⊎◌, ◌<◌, ◌≤◌, ◌+ℤ◌, ◌≤ℤ◌, ◌<ℤ◌, List, [], ◌∷◌, ◌++◌, int_le, int_lt, arith, inl, inr, refl, sym}
use Rattle.std.specs.Prelude.{Some, slice_get, ◌||◌, ◌+◌, if◌then◌else◌}
use Rattle.std.specs.List.{list_any}
use Rattle.std.proofs.lemmas.Bool.{cases_lt}
use Rattle.std.proofs.lemmas.Bool.Decides.{nat_tests}
use Rattle.std.proofs.lemmas.Int.{ints, by_lt_z}
use Rattle.std.proofs.lemmas.List.Folds.{list_any-append}
use Rattle.page_model.specs.declared.scene.Layer.{Layer}
use Rattle.page_model.specs.declared.scene.Scene.{Scene}
use Rattle.page_model.specs.declared.setup.Setup.{Setup}
use Rattle.page_model.specs.Enclosure.{IsLooseStateAt, Loose, LooseState, Sureness, maybe, own, surely, surely_not}
use Rattle.page_model.specs.TintOf.{both, spans_surely}
use Rattle.wide_laws.proofs.LooseLemmas.{loose_state-unique}
use Rattle.region_parts.specs.declared.areas.Area.{Area}
use Rattle.region_parts.specs.Meeting.{IsAreaOf, IsBoxAreasOf, IsNowhere, IsReach, IsSeenAt, IsSeenBelow, IsSeenIn, has_pixel}

lt-no : (x y : ℤ) → y ≤ℤ x → int_lt x y ≡ false
lt-no x y h = let e : false ≡ int_lt x y = omega (arith, ints) in sym e

lt-yes : (x y : ℤ) → x <ℤ y → int_lt x y ≡ true
lt-yes x y h = let e : true ≡ int_lt x y = omega (arith, ints) in sym e

le-no : (x y : ℤ) → y <ℤ x → int_le x y ≡ false
le-no x y h = let e : false ≡ int_le x y = omega (arith, ints) in sym e

le-yes : (x y : ℤ) → x ≤ℤ y → int_le x y ≡ true
le-yes x y h = let e : true ≡ int_le x y = omega (arith, ints) in sym e

-- behind the first edge that is possible, and before the last end, a box may span a place
rest-may : (a b : Bool) → (if a then (if b then surely else maybe) else maybe) ≢ surely_not
rest-may true true same = absurd (cc)
rest-may true false same = absurd (cc)
rest-may false b same = absurd (cc)

spans-may : (from extent : Loose) (at : ℕ) → from.lo ≤ℤ pos at → pos at <ℤ (from.hi +ℤ extent.hi)
    → spans_surely from extent at ≢ surely_not
spans-may from extent at low high =
    rw (lt-no (pos at) from.lo low, le-no (from.hi +ℤ extent.hi) (pos at) high)
    (rest-may (int_le from.hi (pos at)) (int_lt (pos at) (from.lo +ℤ extent.lo)))

-- and elsewhere it surely doesn't
before-not : (from extent : Loose) (at : ℕ) → pos at <ℤ from.lo → spans_surely from extent at ≡ surely_not
before-not from extent at less = rw (lt-yes (pos at) from.lo less) refl

behind-not : (from extent : Loose) (at : ℕ) → (from.hi +ℤ extent.hi) ≤ℤ pos at → spans_surely from extent at ≡ surely_not
behind-not from extent at past =
    by_lt_z (pos at) from.lo (λ less. before-not from extent at less)
    (λ low. rw (lt-no (pos at) from.lo low, le-yes (from.hi +ℤ extent.hi) (pos at) past) refl)

pub reach : (size : ℕ) (from extent : Loose) (start end : ℕ)
    → ((at : ℕ) → at < size → (from.lo ≤ℤ pos at ↔ start ≤ at))
    → ((at : ℕ) → at < size → ((from.hi +ℤ extent.hi) ≤ℤ pos at ↔ end ≤ at)) → IsReach size from extent start end
reach size from extent start end low high at below = (
  λ may. (
    by_lt_z (pos at) from.lo (λ less. absurd (may (before-not from extent at less))) (λ most. (low at below).0 most),
    by_lt_z (pos at) (from.hi +ℤ extent.hi) (λ less. before_end less) (λ most. absurd (may (behind-not from extent at most))),
  ),
  λ within. spans-may from extent at ((low at below).1 within.0)
      (by_lt_z (pos at) (from.hi +ℤ extent.hi) (λ less. less) (λ most. absurd (past_end ((high at below).0 most) within.1))),
) where
  before_end : pos at <ℤ (from.hi +ℤ extent.hi) → at < end
  before_end less = elim (cases_lt at end) [
    | inl early ↦ early
    | inr late ↦ let past = (high at below).1 late in absurd (omega (arith, ints, less, past))
  ]

  past_end : end ≤ at → at < end → ⊥
  past_end past less = absurd (omega arith)

-- a box covers a pixel where it spans both its column and its row
both-may : (a b : Sureness) → a ≢ surely_not → b ≢ surely_not → both a b ≢ surely_not
both-may surely b one other = other
both-may surely_not b one other = λ same. one refl
both-may maybe surely one other = λ same. absurd (cc)
both-may maybe surely_not one other = λ same. other refl
both-may maybe maybe one other = λ same. absurd (cc)

first-may : (a b : Sureness) → both a b ≢ surely_not → a ≢ surely_not
first-may a b may same = may (rw same refl)

second-may : (a b : Sureness) → both a b ≢ surely_not → b ≢ surely_not
second-may surely b may same = may same
second-may surely_not b may same = may refl
second-may maybe b may same = may (rw same refl)

-- a pixel lies in an area where it is between its edges both ways
pub record IsInArea (area : Area) (column row : ℕ) : Type 0 where
  pub right_of : area.left ≤ column
  pub left_of : column < area.right
  pub below : area.top ≤ row
  pub above : row < area.bottom

pub in-area : (area : Area) (column row : ℕ) → has_pixel column row area ≡ true → IsInArea area column row
in-area area column row is = record {
  right_of = grind (arith, nat_tests);
  left_of = grind (arith, nat_tests);
  below = grind (arith, nat_tests);
  above = grind (arith, nat_tests);
}

pub has-area : (area : Area) (column row : ℕ) → IsInArea area column row → has_pixel column row area ≡ true
has-area area column row is =
    let right_of = is.right_of in
    let left_of = is.left_of in
    let below = is.below in
    let above = is.above in
    grind (arith, nat_tests)

-- where a layer of a state that isn't hidden may be seen
pub record AreReaches (setup : Setup) (state : LooseState) (left right top bottom : ℕ) : Type 0 where
  pub across : IsReach setup.width state.left state.width left right
  pub down : IsReach setup.height state.top state.height top bottom

pub area-is : (setup : Setup) (state : LooseState) (area : Area) → state.shown ≢ surely_not
    → AreReaches setup state area.left area.right area.top area.bottom → IsAreaOf setup state area
area-is setup state area shown reaches column row pixel = (
  λ has.
      let inside = in-area area column row has in
      record {
        shown = shown;
        covers = both-may (spans_surely state.left state.width column) (spans_surely state.top state.height row)
            ((reaches.across column pixel.left_of).1 (inside.right_of, inside.left_of))
            ((reaches.down row pixel.above).1 (inside.below, inside.above));
      },
  λ seen.
      let across = (reaches.across column pixel.left_of).0 (first-may _ (spans_surely state.top state.height row) seen.covers) in
      let down = (reaches.down row pixel.above).0 (second-may (spans_surely state.left state.width column) _ seen.covers) in
      has-area area column row (record { right_of = across.0; left_of = across.1; below = down.0; above = down.1 }),
)

-- and where one side has none, nowhere
pub narrow-nowhere : (setup : Setup) (state : LooseState) (left right top bottom : ℕ)
    → AreReaches setup state left right top bottom → right ≤ left → IsNowhere setup state
narrow-nowhere setup state left right top bottom reaches narrow column row pixel seen =
    let across = (reaches.across column pixel.left_of).0 (first-may _ (spans_surely state.top state.height row) seen.covers) in
    let low = across.0 in
    let high = across.1 in
    absurd (omega arith)

pub low-nowhere : (setup : Setup) (state : LooseState) (left right top bottom : ℕ)
    → AreReaches setup state left right top bottom → bottom ≤ top → IsNowhere setup state
low-nowhere setup state left right top bottom reaches low column row pixel seen =
    let down = (reaches.down row pixel.above).0 (second-may (spans_surely state.left state.width column) _ seen.covers) in
    let first = down.0 in
    let last = down.1 in
    absurd (omega arith)

-- no frame yet
pub seen-none : (scene : Scene) (setup : Setup) (number : ℕ) → IsBoxAreasOf scene setup number 0 []
seen-none scene setup number column row pixel = (
  λ has. absurd (cc),
  λ seen. let before = seen.before in absurd (omega arith),
)

-- what is seen in a frame is seen by the layer's state there
seen-by : (scene : Scene) (setup : Setup) (frame number column row : ℕ) (layer : Layer) (state : LooseState)
    → slice_get scene.layers number ≡ Some layer → IsLooseStateAt own scene setup frame layer state
    → IsSeenIn scene setup frame number column row → IsSeenAt state column row
seen-by scene setup frame number column row layer state there is seen =
    let found = seen.is_there in
    let alike : seen.layer ≡ layer = cc in
    let same : seen.state ≡ state = loose_state-unique own scene setup frame layer seen.state state (rw alike at seen.is_own) is in
    rw same at seen.seen

-- one frame more
pub record HasStateIn (scene : Scene) (setup : Setup) (frame number : ℕ) (state : LooseState) : Type 0 where
  pub layer : Layer
  pub there : slice_get scene.layers number ≡ Some layer
  pub is : IsLooseStateAt own scene setup frame layer state

below-cases : (scene : Scene) (setup : Setup) (number frames column row : ℕ) (state : LooseState)
    → HasStateIn scene setup frames number state → IsSeenBelow scene setup number (frames + 1) column row
    → IsSeenBelow scene setup number frames column row ⊎ IsSeenAt state column row
below-cases scene setup number frames column row state has seen =
    let before = seen.before in
    elim (cases_lt seen.frame frames) [
      | inl early ↦ inl (record { frame = seen.frame; before = early; seen = seen.seen })
      | inr late ↦
          let same : seen.frame ≡ frames = omega arith in
          inr (seen-by scene setup frames number column row has.layer state has.there has.is (rw same at seen.seen))
    ]

below-more : (scene : Scene) (setup : Setup) (number frames column row : ℕ) → IsSeenBelow scene setup number frames column row
    → IsSeenBelow scene setup number (frames + 1) column row
below-more scene setup number frames column row seen =
    let before = seen.before in
    record { frame = seen.frame; before = omega arith; seen = seen.seen }

pub nowhere-more : (scene : Scene) (setup : Setup) (number frames : ℕ) (areas : List Area) (state : LooseState)
    → HasStateIn scene setup frames number state → IsNowhere setup state → IsBoxAreasOf scene setup number frames areas
    → IsBoxAreasOf scene setup number (frames + 1) areas
nowhere-more scene setup number frames areas state has none are column row pixel = (
  λ is. below-more scene setup number frames column row ((are column row pixel).0 is),
  λ seen. elim (below-cases scene setup number frames column row state has seen) [
    | inl early ↦ (are column row pixel).1 early
    | inr here ↦ absurd (none column row pixel here)
  ],
)

pub either-true : (a b : Bool) → (a || b) ≡ true → (a ≡ true) ⊎ (b ≡ true)
either-true true b is = inl refl
either-true false b is = inr is

right-true : (a b : Bool) → b ≡ true → (a || b) ≡ true
right-true true b is = refl
right-true false b is = is

or-nothing : (b : Bool) → (b || false) ≡ b
or-nothing true = refl
or-nothing false = refl

pub area-more : (scene : Scene) (setup : Setup) (number frames : ℕ) (areas : List Area) (area : Area) (state : LooseState)
    → HasStateIn scene setup frames number state → IsAreaOf setup state area → IsBoxAreasOf scene setup number frames areas
    → IsBoxAreasOf scene setup number (frames + 1) (areas ++ (area ∷ []))
area-more scene setup number frames areas area state has is are column row pixel =
    rw (list_any-append (has_pixel column row) areas (area ∷ []), or-nothing (has_pixel column row area)) (
      λ some. elim (either-true (list_any (has_pixel column row) areas) (has_pixel column row area) some) [
        | inl early ↦ below-more scene setup number frames column row ((are column row pixel).0 early)
        | inr here ↦ record {
          frame = frames;
          before = omega arith;
          seen = record {
            layer = has.layer;
            state = state;
            is_there = has.there;
            is_own = has.is;
            seen = (is column row pixel).0 here;
          };
        }
      ],
      λ seen. elim (below-cases scene setup number frames column row state has seen) [
        | inl early ↦ left-true _ (has_pixel column row area) ((are column row pixel).1 early)
        | inr here ↦ right-true (list_any (has_pixel column row) areas) _ ((is column row pixel).1 here)
      ],
    )
  where
    left-true : (a b : Bool) → a ≡ true → (a || b) ≡ true
    left-true true b e = refl
    left-true false b e = absurd (cc)
