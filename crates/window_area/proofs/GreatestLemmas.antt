-- The best row as the greatest area over all whole positions, and the first position with it.
use Rattle.std.proofs.Common.{ℕ, Bool, List, ◌<◌, ◌≤◌, arith}
use Rattle.std.specs.Prelude.{pos, negsuc}
use Rattle.std.proofs.lemmas.Int.{ints}
use Rattle.window_area.specs.FlaggedArea.{IsFirstColumn, IsFirstRow, IsGreatest}
use Rattle.window_area.specs.Sliding.{IsBestRow}
use Rattle.window_area.proofs.AreaLemmas.{area-anywhere}

first-row : (xs ys : List ℕ) (flags : List Bool) (limit row column most : ℕ) → IsBestRow xs ys flags limit row column most
    → IsFirstRow xs ys flags most (pos row)
first-row xs ys flags limit row column most best (pos a) (pos b) right down same =
    let first : row ≤ b = best.first_row a b (omega (arith, same)) in omega (arith, ints, first)
first-row xs ys flags limit row column most best (negsuc a) y right down same = absurd (omega (arith, ints, right))
first-row xs ys flags limit row column most best (pos a) (negsuc b) right down same = absurd (omega (arith, ints, down))

first-column : (xs ys : List ℕ) (flags : List Bool) (limit row column most : ℕ) → IsBestRow xs ys flags limit row column most
    → IsFirstColumn xs ys flags most (pos column) (pos row)
first-column xs ys flags limit row column most best (pos a) right same =
    let first : column ≤ a = best.first_column a (omega (arith, same)) in omega (arith, ints, first)
first-column xs ys flags limit row column most best (negsuc a) right same = absurd (omega (arith, ints, right))

pub row-greatest : (xs ys : List ℕ) (flags : List Bool) (limit row column most : ℕ) → IsBestRow xs ys flags limit row column most
    → limit < most → IsGreatest xs ys flags (record { area = most; x = pos column; y = pos row })
row-greatest xs ys flags limit row column most best above = record {
  most = area-anywhere xs ys flags most best.greatest;
  has = best.has above;
  right = omega (arith, ints);
  down = omega (arith, ints);
  first_row = first-row xs ys flags limit row column most best;
  first_column = first-column xs ys flags limit row column most best;
}
