-- The flagged area beside the definition of a bad window: a marking of flagged pixels in the rectangle at a position counts at
-- most that area, and the marking of all of them counts exactly it.
use Rattle.std.proofs.Common.{ℕ, Bool, true, false, List, ◌≡◌, ◌+◌, ◌<◌, ◌≤◌, cond, arith, refl}
use Rattle.std.specs.Prelude.{ℤ, pos, negsuc, ◌≤ℤ◌, ◌+ℤ◌, ◌&&◌, IsTrue, nat_le, nat_lt}
use Rattle.std.proofs.lemmas.Bool.{and_from, and_parts, le-leb, leb-true, lt-ltb, ltb-true}
use Rattle.std.proofs.lemmas.Int.{ints}
use Rattle.page_model.specs.Flash.{IsInRectangle, area, sum_below}
use Rattle.window_area.specs.Edges.{end_of}
use Rattle.window_area.specs.FlaggedArea.{flagged_area, has_place, in_rectangle, is_flagged}
use Rattle.window_area.proofs.SumLemmas.{sum-le}

-- a place is one of so many from a position on, as the definition says it
place-from : (size : ℕ) (x : ℤ) (place : ℕ) → IsTrue (has_place (size + 1) x place)
    → (x ≤ℤ pos place) × (pos place ≤ℤ (x +ℤ pos size))
place-from size (pos a) place h =
    let parts = and_parts (nat_le a place) (nat_lt place (a + (size + 1))) h in
    let low : a ≤ place = leb-true a place parts.0 in
    let high : place < a + (size + 1) = ltb-true place (a + (size + 1)) parts.1 in
    (omega (arith, ints), omega (arith, ints))
place-from size (negsuc a) place h = (grind (arith, ints), grind (arith, ints))

place-has : (size : ℕ) (x : ℤ) (place : ℕ) → x ≤ℤ pos place → pos place ≤ℤ (x +ℤ pos size)
    → IsTrue (has_place (size + 1) x place)
place-has size (pos a) place low high =
    and_from (nat_le a place) (nat_lt place (a + (size + 1))) (le-leb a place (omega (arith, ints)))
    (lt-ltb place (a + (size + 1)) (omega (arith, ints)))
place-has size (negsuc a) place low high = grind (arith, ints)

-- the pixels that the rectangle at a position holds
pub in_rectangle-means : (x y : ℤ) (column row : ℕ) → IsTrue (in_rectangle x y column row) → IsInRectangle x y column row
in_rectangle-means x y column row h =
    let parts = and_parts (has_place 341 x column) (has_place 256 y row) h in
    let across = place-from 340 x column parts.0 in
    let down = place-from 255 y row parts.1 in
    record { right_of = across.0; left_of = across.1; below = down.0; above = down.1 }

pub in_rectangle-holds : (x y : ℤ) (column row : ℕ) → IsInRectangle x y column row → IsTrue (in_rectangle x y column row)
in_rectangle-holds x y column row is =
    and_from (has_place 341 x column) (has_place 256 y row) (place-has 340 x column is.right_of is.left_of) (place-has 255 y row is.below is.above)

-- the marking of all flagged pixels in the rectangle
pub all_flagged : List ℕ → List ℕ → List Bool → ℤ → ℤ → ℕ → ℕ → Bool
all_flagged xs ys flags x y column row = in_rectangle x y column row && is_flagged xs ys flags column row

pub all_flagged-counts : (xs ys : List ℕ) (flags : List Bool) (x y : ℤ)
    → area (end_of xs) (end_of ys) (all_flagged xs ys flags x y) ≡ flagged_area xs ys flags x y
unfolding all_flagged flagged_area
all_flagged-counts xs ys flags x y = refl

pub all_flagged-inside : (xs ys : List ℕ) (flags : List Bool) (x y : ℤ) (column row : ℕ)
    → IsTrue (all_flagged xs ys flags x y column row)
    → IsInRectangle x y column row × IsTrue (is_flagged xs ys flags column row)
unfolding all_flagged
all_flagged-inside xs ys flags x y column row h =
    let parts = and_parts (in_rectangle x y column row) (is_flagged xs ys flags column row) h in
    (in_rectangle-means x y column row parts.0, parts.1)

one-le : (a b : Bool) → (IsTrue a → IsTrue b) → cond {A = ℕ} a 1 0 ≤ cond b 1 0
one-le true b implied = rw (implied refl) (omega arith)
one-le false b implied = omega arith

-- no marking of pixels of the viewport that are flagged and in the rectangle counts more
pub marked-at_most : (xs ys : List ℕ) (flags : List Bool) (x y : ℤ) (marks : ℕ → ℕ → Bool)
    → ((column row : ℕ) → column < end_of xs → row < end_of ys → IsTrue (marks column row)
    → IsInRectangle x y column row × IsTrue (is_flagged xs ys flags column row))
    → area (end_of xs) (end_of ys) marks ≤ flagged_area xs ys flags x y
unfolding flagged_area
marked-at_most xs ys flags x y marks inside =
    sum-le (end_of xs) (λ column. sum_below (end_of ys) (λ row. cond (marks column row) 1 0))
    (λ column. sum_below (end_of ys) (λ row. cond (in_rectangle x y column row && is_flagged xs ys flags column row) 1 0))
    (λ column within. sum-le (end_of ys) (λ row. cond (marks column row) 1 0)
    (λ row. cond (in_rectangle x y column row && is_flagged xs ys flags column row) 1 0)
    (λ row below. one-le (marks column row) (in_rectangle x y column row && is_flagged xs ys flags column row)
    (λ marked.
    let is = inside column row within below marked in
    and_from (in_rectangle x y column row) (is_flagged xs ys flags column row) (in_rectangle-holds x y column row is.0) is.1)))
