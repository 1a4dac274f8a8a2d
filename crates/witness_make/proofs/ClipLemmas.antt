-- The two sides of a cut, and where it lies.
use Rattle.std.proofs.Common.{ℕ, arith}
use Rattle.std.specs.Prelude.{ℤ, pos, ◌≤ℤ◌, ◌<ℤ◌, ◌+ℤ◌}
use Rattle.std.proofs.lemmas.Int.{ints}
use Rattle.page_model.specs.Flash.{IsInRectangle}
use Rattle.region_split.specs.declared.types.Rect.{Rect}
use Rattle.region_split.specs.Cutting.{IsInside}
use Rattle.witness_make.specs.declared.clip.Band.{Band}
use Rattle.witness_make.specs.Clip.{AreApart, IsCutTo, IsInBoth, IsShared, Misses}

-- a pixel of the cell and of the rectangle, by its column and by its row
across : (x y : ℤ) (cell : Rect) (column row : ℕ) → IsInside cell column row → IsInRectangle x y column row → IsInBoth cell.x cell.width x 341 column
across x y cell column row inside is = record {
  low = inside.right_of;
  high = inside.left_of;
  after = is.right_of;
  before = let h = is.left_of in omega (arith, ints);
}

down : (x y : ℤ) (cell : Rect) (column row : ℕ) → IsInside cell column row → IsInRectangle x y column row → IsInBoth cell.y cell.height y 256 row
down x y cell column row inside is = record {
  low = inside.below;
  high = inside.above;
  after = is.below;
  before = let h = is.above in omega (arith, ints);
}

pub misses-across : (x y : ℤ) (cell : Rect) → AreApart cell.x cell.width x 341 → Misses x y cell
misses-across x y cell apart column row inside is = apart column (across x y cell column row inside is)

pub misses-down : (x y : ℤ) (cell : Rect) → AreApart cell.y cell.height y 256 → Misses x y cell
misses-down x y cell apart column row inside is = apart row (down x y cell column row inside is)

to-340 : (x : ℤ) (place : ℕ) → pos place <ℤ (x +ℤ pos 341) → pos place ≤ℤ (x +ℤ pos 340)
to-340 x place h = omega (arith, ints)

to-255 : (y : ℤ) (place : ℕ) → pos place <ℤ (y +ℤ pos 256) → pos place ≤ℤ (y +ℤ pos 255)
to-255 y place h = omega (arith, ints)

pub both-sides : (x y : ℤ) (cell : Rect) (columns rows : Band) → IsShared cell.x cell.width x 341 columns → IsShared cell.y cell.height y 256 rows
    → IsCutTo x y cell (record { x = columns.start; y = rows.start; width = columns.size; height = rows.size })
both-sides x y cell columns rows one other = record {
  some_width = one.some;
  some_height = other.some;
  each = λ column row. (
    λ inside.
        let right = (one.each column).0 (inside.right_of, inside.left_of) in
        let under = (other.each row).0 (inside.below, inside.above) in (
          record { right_of = right.low; left_of = right.high; below = under.low; above = under.high },
          record { right_of = right.after; left_of = to-340 x column right.before; below = under.after; above = to-255 y row under.before },
        ),
    λ both.
        let right = (one.each column).1 (across x y cell column row both.0 both.1) in
        let under = (other.each row).1 (down x y cell column row both.0 both.1) in
        record { right_of = right.0; left_of = right.1; below = under.0; above = under.1 },
  );
}
