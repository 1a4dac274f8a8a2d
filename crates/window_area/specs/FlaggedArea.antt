-- How many flagged pixels the 341 by 256 rectangle of WCAG 2.2 holds at a position. Edges cut the viewport into cells, and a
-- pixel is flagged where its cell is. The position may be any whole one: the rectangle may lie past the viewport's ends.
use Rattle.std.specs.Prelude.{ℕ, ℤ, pos, Bool, false, ◌≡◌, ◌+◌, ◌*◌, ◌≤◌, ◌≤ℤ◌, ◌+ℤ◌, ◌&&◌, List, slice_index_or}
use Rattle.std.specs.Int.Signed.{le_z, lt_z}
use Rattle.page_model.specs.Flash.{area}
use Rattle.window_area.specs.declared.best.Best.{Best}
use Rattle.window_area.specs.Edges.{bands, band_of, end_of}

-- a place is one of so many from a position on
abbrev pub has_place : ℕ → ℤ → ℕ → Bool
has_place size x place = le_z x (pos place) && lt_z (pos place) (x +ℤ pos size)

-- a pixel lies in the rectangle whose upper left pixel is at a position
abbrev pub in_rectangle : ℤ → ℤ → ℕ → ℕ → Bool
in_rectangle x y column row = has_place 341 x column && has_place 256 y row

-- the flag of a cell: flags stand row by row, each row from left to right
abbrev pub cell_flag : ℕ → List Bool → ℕ → ℕ → Bool
cell_flag across flags column_band row_band = slice_index_or flags (row_band * across + column_band) false

-- the flag of the cell in which a pixel lies
abbrev pub is_flagged : List ℕ → List ℕ → List Bool → ℕ → ℕ → Bool
is_flagged xs ys flags column row = cell_flag (bands xs) flags (band_of xs column) (band_of ys row)

-- how many flagged pixels of the viewport the rectangle holds at a position
unfoldable pub flagged_area : List ℕ → List ℕ → List Bool → ℤ → ℤ → ℕ
flagged_area xs ys flags x y =
    area (end_of xs) (end_of ys) (λ column row. in_rectangle x y column row && is_flagged xs ys flags column row)

-- how many flagged pixels the viewport has
unfoldable pub total_area : List ℕ → List ℕ → List Bool → ℕ
total_area xs ys flags = area (end_of xs) (end_of ys) (λ column row. is_flagged xs ys flags column row)

-- the rectangle never holds more than all of them
abbrev pub HoldsNoMoreThanAll : List ℕ → List ℕ → List Bool → Type 0
HoldsNoMoreThanAll xs ys flags = (x y : ℤ) → flagged_area xs ys flags x y ≤ total_area xs ys flags

-- no position of the rectangle has more than this
abbrev pub HoldsAtMost : List ℕ → List ℕ → List Bool → ℕ → Type 0
HoldsAtMost xs ys flags most = (x y : ℤ) → flagged_area xs ys flags x y ≤ most

-- the position, from 0 on, is above or on the row of each such position that holds as much
abbrev pub IsFirstRow : List ℕ → List ℕ → List Bool → ℕ → ℤ → Type 0
IsFirstRow xs ys flags most row =
    (x y : ℤ) → pos 0 ≤ℤ x → pos 0 ≤ℤ y → flagged_area xs ys flags x y ≡ most → row ≤ℤ y

-- and in that row it is the first
abbrev pub IsFirstColumn : List ℕ → List ℕ → List Bool → ℕ → ℤ → ℤ → Type 0
IsFirstColumn xs ys flags most column row =
    (x : ℤ) → pos 0 ≤ℤ x → flagged_area xs ys flags x row ≡ most → column ≤ℤ x

-- the area is the greatest, and the position the first with it
pub record IsGreatest (xs ys : List ℕ) (flags : List Bool) (best : Best) : Type 0 where
  pub most : HoldsAtMost xs ys flags best.area
  pub has : flagged_area xs ys flags best.x best.y ≡ best.area
  pub right : pos 0 ≤ℤ best.x
  pub down : pos 0 ≤ℤ best.y
  pub first_row : IsFirstRow xs ys flags best.area best.y
  pub first_column : IsFirstColumn xs ys flags best.area best.x best.y
