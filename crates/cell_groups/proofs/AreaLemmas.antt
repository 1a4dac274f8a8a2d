-- Where a box may be, and what lies outside.
use Rattle.std.proofs.Common.{ℕ, ℤ, pos, Bool, true, false, ◌≡◌, ◌⊎◌, ◌+ℤ◌, ◌≤ℤ◌, ◌<ℤ◌, int_le, int_lt, arith, inl, inr, refl, sym}
use Rattle.std.specs.Prelude.{◌||◌}
use Rattle.std.proofs.lemmas.Int.{ints, by_lt_z}
use Rattle.page_model.specs.Enclosure.{Loose, Sureness, maybe, surely, surely_not}
use Rattle.page_model.specs.TintOf.{both, spans_surely}
use Rattle.frame_state.specs.Places.{LoosePlace}
use Rattle.cell_groups.specs.declared.homes.Area.{Area}
use Rattle.cell_groups.specs.Homes.{is_outside, place_covers}

lt-yes : (x y : ℤ) → x <ℤ y → int_lt x y ≡ true
lt-yes x y h = let e : true ≡ int_lt x y = omega (arith, ints) in sym e

le-yes : (x y : ℤ) → x ≤ℤ y → int_le x y ≡ true
le-yes x y h = let e : true ≡ int_le x y = omega (arith, ints) in sym e

or-right : (a b : Bool) → b ≡ true → (a || b) ≡ true
or-right true b is = refl
or-right false b is = is

either-true : (a b : Bool) → (a || b) ≡ true → (a ≡ true) ⊎ (b ≡ true)
either-true true b is = inl refl
either-true false b is = inr is

-- a pixel lies outside on one of four sides
pub data LiesOutside (area : Area) (column row : ℕ) : Type 0 where
  leftwards : pos column <ℤ area.left → LiesOutside area column row
  rightwards : area.right ≤ℤ pos column → LiesOutside area column row
  upwards : pos row <ℤ area.top → LiesOutside area column row
  downwards : area.bottom ≤ℤ pos row → LiesOutside area column row

pub to_outside : (area : Area) (column row : ℕ) → LiesOutside area column row → is_outside area column row ≡ true
to_outside area column row (leftwards less) = rw (lt-yes (pos column) area.left less) refl
to_outside area column row (rightwards most) =
    or-right (int_lt (pos column) area.left) _ (rw (le-yes area.right (pos column) most) refl)
to_outside area column row (upwards less) =
    or-right (int_lt (pos column) area.left) _ (or-right (int_le area.right (pos column)) _ (rw (lt-yes (pos row) area.top less) refl))
to_outside area column row (downwards most) =
    or-right (int_lt (pos column) area.left) _ (or-right (int_le area.right (pos column)) _
    (or-right (int_lt (pos row) area.top) _ (le-yes area.bottom (pos row) most)))

pub from_outside : (area : Area) (column row : ℕ) → is_outside area column row ≡ true → LiesOutside area column row
from_outside area column row is =
    elim (either-true (int_lt (pos column) area.left) _ is) [
      | inl e ↦ leftwards (omega (arith, ints, e))
      | inr rest ↦ elim (either-true (int_le area.right (pos column)) _ rest) [
        | inl e ↦ rightwards (omega (arith, ints, e))
        | inr more ↦ elim (either-true (int_lt (pos row) area.top) _ more) [
          | inl e ↦ upwards (omega (arith, ints, e))
          | inr e ↦ downwards (omega (arith, ints, e))
        ]
      ]
    ]

-- an area reaches at least as far as another
pub record Reaches (outer inner : Area) : Type 0 where
  pub left : outer.left ≤ℤ inner.left
  pub right : inner.right ≤ℤ outer.right
  pub top : outer.top ≤ℤ inner.top
  pub bottom : inner.bottom ≤ℤ outer.bottom

pub outside-both : (outer inner : Area) (column row : ℕ) → Reaches outer inner → is_outside outer column row ≡ true
    → is_outside inner column row ≡ true
outside-both outer inner column row reaches is =
    let left = reaches.left in
    let right = reaches.right in
    let top = reaches.top in
    let bottom = reaches.bottom in
    to_outside inner column row (elim (from_outside outer column row is) [
      | leftwards less ↦ leftwards (omega (arith, ints, less, left))
      | rightwards most ↦ rightwards (omega (arith, ints, most, right))
      | upwards less ↦ upwards (omega (arith, ints, less, top))
      | downwards most ↦ downwards (omega (arith, ints, most, bottom))
    ])

-- so does an area that holds a box in a place
pub record HoldsBox (area : Area) (place : LoosePlace) : Type 0 where
  pub left : area.left ≤ℤ place.left.lo
  pub right : (place.left.hi +ℤ place.width.hi) ≤ℤ area.right
  pub top : area.top ≤ℤ place.top.lo
  pub bottom : (place.top.hi +ℤ place.height.hi) ≤ℤ area.bottom

before-not : (from extent : Loose) (at : ℕ) → pos at <ℤ from.lo → spans_surely from extent at ≡ surely_not
before-not from extent at less = rw (lt-yes (pos at) from.lo less) refl

behind-not : (from extent : Loose) (at : ℕ) → (from.hi +ℤ extent.hi) ≤ℤ pos at → spans_surely from extent at ≡ surely_not
behind-not from extent at past =
    by_lt_z (pos at) from.lo (λ less. before-not from extent at less)
    (λ low. rw (lt-no (pos at) from.lo low, le-yes (from.hi +ℤ extent.hi) (pos at) past) refl)
  where
    lt-no : (x y : ℤ) → y ≤ℤ x → int_lt x y ≡ false
    lt-no x y h = let e : false ≡ int_lt x y = omega (arith, ints) in sym e

first-not : (a b : Sureness) → a ≡ surely_not → both a b ≡ surely_not
first-not a b is = rw is refl

second-not : (a b : Sureness) → b ≡ surely_not → both a b ≡ surely_not
second-not surely b is = is
second-not surely_not b is = refl
second-not maybe b is = rw is refl

-- and a box doesn't cover what lies outside
pub outside-not : (area : Area) (place : LoosePlace) (column row : ℕ) → HoldsBox area place → is_outside area column row ≡ true
    → place_covers place column row ≡ surely_not
outside-not area place column row holds is =
    let left = holds.left in
    let right = holds.right in
    let top = holds.top in
    let bottom = holds.bottom in
    let across : Sureness = spans_surely place.left place.width column in
    let down : Sureness = spans_surely place.top place.height row in
    elim (from_outside area column row is) [
      | leftwards less ↦ first-not across down (before-not place.left place.width column (omega (arith, ints, less, left)))
      | rightwards most ↦ first-not across down (behind-not place.left place.width column (omega (arith, ints, most, right)))
      | upwards less ↦ second-not across down (before-not place.top place.height row (omega (arith, ints, less, top)))
      | downwards most ↦ second-not across down (behind-not place.top place.height row (omega (arith, ints, most, bottom)))
    ]
