-- How many columns of pixels are flagged in a row of cells, and how many pixels in all rows.
use Rattle.std.proofs.Common.{ℕ, Bool, true, false, List, ◌≡◌, ◌+◌, ◌-◌, ◌*◌, ◌<◌, ◌≤◌, ◌∙◌, get_or, length, cond, arith, ap, refl}
use Rattle.std.specs.Prelude.{◌&&◌}
use Rattle.std.proofs.Math.Nat.{mul-le-mul_left}
use Rattle.page_model.specs.Flash.{sum_below}
use Rattle.window_area.specs.Edges.{AreEdges, band_of, bands, end_of}
use Rattle.window_area.specs.FlaggedArea.{HoldsNoMoreThanAll, flagged_area, in_rectangle, is_flagged, total_area}
use Rattle.window_area.specs.Sliding.{IsRow, only_if, row_width}
use Rattle.window_area.proofs.BandLemmas.{band_of-below, band_of-between, edge-le}
use Rattle.window_area.proofs.ColumnLemmas.{cell_value, only_if-product}
use Rattle.window_area.proofs.SumLemmas.{sum-le, sum-more, sum-none, sum-same, sum-scaled}

-- the bands so far are counted
pub record IsWidthSoFar (xs : List ℕ) (row_flags : List Bool) (band width : ℕ) : Type 0 where
  pub value : width ≡ sum_below (get_or xs band 0) (λ column. cond (get_or row_flags (band_of xs column) false) 1 0)
  pub small : width ≤ get_or xs band 0

pub width-none : (xs : List ℕ) (row_flags : List Bool) → AreEdges xs → IsWidthSoFar xs row_flags 0 0
width-none xs row_flags are =
    let begin : get_or xs 0 0 ≡ 0 = are.begin in record { value = rw begin refl; small = omega arith }

only_if-at_most : (b : Bool) (amount : ℕ) → only_if b amount ≤ amount
only_if-at_most true amount = omega arith
only_if-at_most false amount = omega arith

pub width-more : (xs : List ℕ) (row_flags : List Bool) (band width : ℕ) → AreEdges xs → band + 1 < length xs
    → IsWidthSoFar xs row_flags band width
    → IsWidthSoFar xs row_flags (band + 1) (width + only_if (get_or row_flags band false) (get_or xs (band + 1) 0 - get_or xs band 0))
width-more xs row_flags band width are within so =
    let from : ℕ = get_or xs band 0 in
    let size : ℕ = get_or xs (band + 1) 0 - from in
    let order = edge-le xs band (band + 1) are (omega arith) within in
    let end : get_or xs (band + 1) 0 ≡ from + size = omega (arith, order) in
    let more = sum-more from size (λ column. cond (get_or row_flags (band_of xs column) false) 1 0) (cond (get_or row_flags band false) 1 0)
    (λ p low high. ap (λ k. cond (get_or row_flags k false) 1 0) (band_of-between xs p band are within low (omega (arith, order, high)))) in
    let to_end = ap (λ n. sum_below n (λ column. cond (get_or row_flags (band_of xs column) false) 1 0)) end in
    record {
      value = omega (arith, so.value, more, to_end, only_if-product (get_or row_flags band false) size);
      small = omega (arith, so.small, order, only_if-at_most (get_or row_flags band false) size);
    }

pub width-all : (xs : List ℕ) (row_flags : List Bool) (band width : ℕ) → band ≡ bands xs → IsWidthSoFar xs row_flags band width
    → width ≡ row_width xs row_flags
unfolding row_width
width-all xs row_flags band width last so =
    so.value
    ∙ ap (λ k. sum_below (get_or xs k 0) (λ column. cond (get_or row_flags (band_of xs column) false) 1 0)) last

-- by the flags of the cells
pub row_width-cells : (xs : List ℕ) (flags row_flags : List Bool) (row : ℕ) → AreEdges xs → IsRow (bands xs) flags row row_flags
    → row_width xs row_flags ≡ sum_below (end_of xs) (λ column. cell_value (bands xs) flags (band_of xs column) row)
unfolding row_width
row_width-cells xs flags row_flags row are is =
    sum-same (end_of xs) (λ column. cond (get_or row_flags (band_of xs column) false) 1 0)
    (λ column. cell_value (bands xs) flags (band_of xs column) row)
    (λ p before. ap (λ b. cond {A = ℕ} b 1 0) (is.each (band_of xs p) (band_of-below xs p are before)))

-- the flagged pixels of a column of pixels, down to a row
abbrev column_upto : List ℕ → List ℕ → List Bool → ℕ → ℕ → ℕ
column_upto xs ys flags end column = sum_below end (λ row. cond (is_flagged xs ys flags column row) 1 0)

column-more : (xs ys : List ℕ) (flags : List Bool) (row column : ℕ) → AreEdges ys → row + 1 < length ys
    → column_upto xs ys flags (get_or ys (row + 1) 0) column
    ≡ column_upto xs ys flags (get_or ys row 0) column
    + (get_or ys (row + 1) 0 - get_or ys row 0) * cell_value (bands xs) flags (band_of xs column) row
column-more xs ys flags row column are within =
    let from : ℕ = get_or ys row 0 in
    let size : ℕ = get_or ys (row + 1) 0 - from in
    let order = edge-le ys row (row + 1) are (omega arith) within in
    let end : get_or ys (row + 1) 0 ≡ from + size = omega (arith, order) in
    let more = sum-more from size (λ p. cond (is_flagged xs ys flags column p) 1 0) (cell_value (bands xs) flags (band_of xs column) row)
    (λ p low high. ap (cell_value (bands xs) flags (band_of xs column)) (band_of-between ys p row are within low (omega (arith, order, high)))) in
    ap (λ n. column_upto xs ys flags n column) end ∙ more

-- the rows of cells so far are counted
pub record IsTotalSoFar (xs ys : List ℕ) (flags : List Bool) (row total : ℕ) : Type 0 where
  pub value : total ≡ sum_below (end_of xs) (column_upto xs ys flags (get_or ys row 0))
  pub small : total ≤ get_or ys row 0 * 4096

pub total-none : (xs ys : List ℕ) (flags : List Bool) → AreEdges ys → IsTotalSoFar xs ys flags 0 0
total-none xs ys flags are =
    let begin : get_or ys 0 0 ≡ 0 = are.begin in
    let none = sum-none (end_of xs) (column_upto xs ys flags (get_or ys 0 0))
    (λ column below. ap (λ n. column_upto xs ys flags n column) begin) in
    record { value = omega (arith, none); small = omega arith }

pub total-more : (xs ys : List ℕ) (flags row_flags : List Bool) (row total width : ℕ) → AreEdges xs → AreEdges ys → row + 1 < length ys
    → IsRow (bands xs) flags row row_flags → width ≡ row_width xs row_flags → width ≤ 4096 → IsTotalSoFar xs ys flags row total
    → IsTotalSoFar xs ys flags (row + 1) (total + (get_or ys (row + 1) 0 - get_or ys row 0) * width)
total-more xs ys flags row_flags row total width across are within is width_is few so =
    let size : ℕ = get_or ys (row + 1) 0 - get_or ys row 0 in
    let order = edge-le ys row (row + 1) are (omega arith) within in
    let more = sum-scaled (end_of xs) size (column_upto xs ys flags (get_or ys (row + 1) 0)) (column_upto xs ys flags (get_or ys row 0))
    (λ column. cell_value (bands xs) flags (band_of xs column) row) (λ column before. column-more xs ys flags row column are within) in
    let product = ap (λ n. size * n) (width_is ∙ row_width-cells xs flags row_flags row across is) in
    record {
      value = omega (arith, so.value, more, product);
      small = omega (arith, so.small, mul-le-mul_left size few, order);
    }

pub total-all : (xs ys : List ℕ) (flags : List Bool) (row total : ℕ) → row ≡ bands ys → IsTotalSoFar xs ys flags row total
    → total ≡ total_area xs ys flags
unfolding total_area
total-all xs ys flags row total last so =
    so.value ∙ ap (λ k. sum_below (end_of xs) (column_upto xs ys flags (get_or ys k 0))) last

-- the rectangle never holds more than all flagged pixels
pub holds_no_more : (xs ys : List ℕ) (flags : List Bool) → HoldsNoMoreThanAll xs ys flags
unfolding flagged_area total_area
holds_no_more xs ys flags x y =
    sum-le (end_of xs)
    (λ column. sum_below (end_of ys) (λ row. cond (in_rectangle x y column row && is_flagged xs ys flags column row) 1 0))
    (λ column. sum_below (end_of ys) (λ row. cond (is_flagged xs ys flags column row) 1 0))
    (λ column within.
    sum-le (end_of ys) (λ row. cond (in_rectangle x y column row && is_flagged xs ys flags column row) 1 0)
    (λ row. cond (is_flagged xs ys flags column row) 1 0)
    (λ row below. second (in_rectangle x y column row) (is_flagged xs ys flags column row))) where
      second : (a b : Bool) → cond {A = ℕ} (a && b) 1 0 ≤ cond b 1 0
      second true b = omega arith
      second false true = omega arith
      second false false = omega arith
