-- What a window of places holds while it slides over a side of the viewport.
use Rattle.std.specs.Prelude.{ℕ, ℤ, pos, Bool, false, cond, ◌≡◌, ◌+◌, ◌<◌, ◌≤◌, nat_lt, List, length, slice_index, slice_index_or}
use Rattle.page_model.specs.Flash.{sum_below}
use Rattle.window_area.specs.declared.window.Window.{Window}
use Rattle.window_area.specs.declared.best.Lead.{Lead}
use Rattle.window_area.specs.declared.strip.Most.{Most}
use Rattle.window_area.specs.Edges.{bands, band_of, end_of}
use Rattle.window_area.specs.FlaggedArea.{cell_flag, flagged_area, has_place}

-- a number, or none
abbrev pub only_if : Bool → ℕ → ℕ
only_if b n = cond b n 0

-- the sum of the weights of so many places from a position on, of those below a limit
unfoldable pub held : ℕ → ℕ → (ℕ → ℕ) → ℤ → ℕ
held size limit weight x = sum_below limit (λ place. only_if (has_place size x place) (weight place))

-- the weight of a place is that of its band
abbrev pub band_weight : List ℕ → List ℕ → ℕ → ℕ
band_weight edges weights place = slice_index weights (band_of edges place)

-- what a window holds at a place, over bands with weights
abbrev pub strip_area : List ℕ → List ℕ → ℕ → ℕ → ℕ
strip_area edges weights size place = held size (end_of edges) (band_weight edges weights) (pos place)

-- there is a weight for each band, and none is more than 4,096
pub record AreWeights (edges weights : List ℕ) : Type 0 where
  pub enough : bands edges ≤ length weights
  pub small : (band : ℕ) → band < bands edges → slice_index weights band ≤ 4096

-- no place has more than this one, and none before it has as much
pub record IsFirstMost (area : ℕ → ℕ) (most : Most) : Type 0 where
  pub has : area most.place ≡ most.area
  pub greatest : (place : ℕ) → area place ≤ most.area
  pub first : (place : ℕ) → most.area ≤ area place → most.place ≤ place

-- a place lies in a band, or, for the number of bands, at the end of the last one or behind it
pub record IsInBand (edges : List ℕ) (place band : ℕ) : Type 0 where
  pub known : band < length edges
  pub from : slice_index edges band ≤ place
  pub before : band + 1 < length edges → place < slice_index edges (band + 1)

-- the bands of a window's first place, and of the place behind its last one
pub record IsWindow (edges : List ℕ) (window : Window) : Type 0 where
  pub some : 0 < window.size
  pub inside : window.first + 1 < length edges
  pub first : IsInBand edges window.place window.first
  pub next : IsInBand edges (window.place + window.size) window.next

-- so far a window slides within the bands of its ends
pub record IsStride (edges : List ℕ) (window : Window) (stride : ℕ) : Type 0 where
  pub some : 0 < stride
  pub first : window.place + stride ≤ slice_index edges (window.first + 1)
  pub inside : window.next + 1 < length edges
  pub next : window.place + window.size + stride ≤ slice_index edges (window.next + 1)

-- of so many rows from a row on, how many are flagged in a band of columns
abbrev pub column_area : ℕ → List ℕ → List Bool → ℕ → ℕ → ℤ → ℕ
column_area across ys flags size band y =
    held size (end_of ys) (λ row. cond (cell_flag across flags band (band_of ys row)) 1 0) y

-- the columns hold that number for each band
pub record AreColumns (across : ℕ) (ys : List ℕ) (flags : List Bool) (size y : ℕ) (columns : List ℕ) : Type 0 where
  pub enough : across ≤ length columns
  pub each : (band : ℕ) → band < across → slice_index columns band ≡ column_area across ys flags size band (pos y)

-- these are the flags of a row of cells
pub record IsRow (across : ℕ) (flags : List Bool) (row : ℕ) (row_flags : List Bool) : Type 0 where
  pub whole : length row_flags ≡ across
  pub each : (band : ℕ) → band < across → slice_index_or row_flags band false ≡ cell_flag across flags band row

-- of so many numbers as there are flags, the flagged ones are greater by an amount
pub record AddsWhereFlagged (flags : List Bool) (amount : ℕ) (old new : List ℕ) : Type 0 where
  pub same_length : length new ≡ length old
  pub each : (i : ℕ) → i < length flags → slice_index new i ≡ slice_index old i + only_if (slice_index_or flags i false) amount

-- of so many numbers as there are flags, the flagged ones are less by an amount
pub record TakesWhereFlagged (flags : List Bool) (amount : ℕ) (old new : List ℕ) : Type 0 where
  pub same_length : length new ≡ length old
  pub each : (i : ℕ) → i < length flags → slice_index new i + only_if (slice_index_or flags i false) amount ≡ slice_index old i

-- how many columns of pixels are flagged in a row of cells
unfoldable pub row_width : List ℕ → List Bool → ℕ
row_width xs row_flags = sum_below (end_of xs) (λ column. cond (slice_index_or row_flags (band_of xs column) false) 1 0)

-- how many flagged pixels the rectangle holds at a place from 0 on
abbrev pub area_at : List ℕ → List ℕ → List Bool → ℕ → ℕ → ℕ
area_at xs ys flags column row = flagged_area xs ys flags (pos column) (pos row)

-- no position from 0 on has more than this one, none in a row before has as much, and none in this row before it; where none has more
-- than a limit, that is told in its place
pub record IsBestRow (xs ys : List ℕ) (flags : List Bool) (limit row column most : ℕ) : Type 0 where
  pub least : limit ≤ most
  pub has : limit < most → area_at xs ys flags column row ≡ most
  pub greatest : (x y : ℕ) → area_at xs ys flags x y ≤ most
  pub first_row : (x y : ℕ) → most ≤ area_at xs ys flags x y → row ≤ y
  pub first_column : (x : ℕ) → most ≤ area_at xs ys flags x row → column ≤ x

-- the best position so far, and what a rectangle holds at most where the window of rows stands; a rectangle is looked for there
-- only where it may hold more, and then the first most of the strip is the new bound
pub data IsLookedAt (xs columns : List ℕ) (row : ℕ) (before after : Lead) : Type 0 where
  is_behind : before.bound ≤ before.best.most.area → after ≡ before → IsLookedAt xs columns row before after
  is_scanned : (most : Most) → IsFirstMost (strip_area xs columns 341) most → most.place ≤ 4096
      → after.bound ≡ most.area
      → after.best ≡ cond (nat_lt before.best.most.area most.area) (record { row = row; most = most }) before.best
      → IsLookedAt xs columns row before after
