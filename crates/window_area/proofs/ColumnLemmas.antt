-- The flagged pixels of the bands of columns, for a window of rows that grows and that slides.
use Rattle.std.proofs.Common.{ℕ, Bool, true, false, List, ◌≡◌, ◌+◌, ◌-◌, ◌*◌, ◌<◌, ◌≤◌, ◌∙◌, get_or, length, cond, arith, ap}
use Rattle.std.specs.Prelude.{pos, min}
use Rattle.std.proofs.Math.Nat.{mul-le-mul_right}
use Rattle.window_area.specs.declared.window.Window.{Window}
use Rattle.window_area.specs.Edges.{AreEdges, band_of, end_of}
use Rattle.window_area.specs.FlaggedArea.{cell_flag}
use Rattle.window_area.specs.Sliding.{AddsWhereFlagged, AreColumns, IsRow, IsStride, IsWindow, TakesWhereFlagged, column_area, held, only_if}
use Rattle.window_area.proofs.BandLemmas.{band_of-between, edge-le, edge-le-end}
use Rattle.window_area.proofs.HeldLemmas.{held-bounded, held-more}
use Rattle.window_area.proofs.SlideLemmas.{banded, window-slides}

-- a cell counts where it is flagged
abbrev pub cell_value : ℕ → List Bool → ℕ → ℕ → ℕ
cell_value across flags band row = cond (cell_flag across flags band row) 1 0

pub cell-at_most : (b : Bool) → cond {A = ℕ} b 1 0 ≤ 1
cell-at_most true = omega arith
cell-at_most false = omega arith

pub only_if-product : (b : Bool) (amount : ℕ) → only_if b amount ≡ amount * cond b 1 0
only_if-product true amount = omega arith
only_if-product false amount = omega arith

-- a row of cells lies among the flags
pub row-within : (across row rows : ℕ) → row < rows → row * across + across ≤ rows * across
row-within across row rows less =
    let product : (row + 1) * across ≤ rows * across = mul-le-mul_right across (omega arith) in omega (arith, product)

-- the columns hold what the window at row 0 holds of the first rows of cells
pub record AreColumnsSoFar (across : ℕ) (ys : List ℕ) (flags : List Bool) (size row : ℕ) (columns : List ℕ) : Type 0 where
  pub enough : across ≤ length columns
  pub each : (band : ℕ) → band < across
      → get_or columns band 0 ≡ held size (get_or ys row 0) (banded ys (cell_value across flags band)) (pos 0)

pub columns-none : (across : ℕ) (ys : List ℕ) (flags : List Bool) (size : ℕ) (columns : List ℕ) → AreEdges ys
    → across ≤ length columns → ((band : ℕ) → band < across → get_or columns band 0 ≡ 0)
    → AreColumnsSoFar across ys flags size 0 columns
unfolding held
columns-none across ys flags size columns are enough none =
    let begin : get_or ys 0 0 ≡ 0 = are.begin in record { enough = enough; each = λ band within. rw begin (none band within) }

pub columns-bounded : (across : ℕ) (ys : List ℕ) (flags : List Bool) (size row : ℕ) (columns : List ℕ) → AreEdges ys
    → row < length ys → AreColumnsSoFar across ys flags size row columns
    → (band : ℕ) → band < across → get_or columns band 0 ≤ 4096
columns-bounded across ys flags size row columns are within so band fits =
    let by_end = held-bounded size (get_or ys row 0) 1 (banded ys (cell_value across flags band)) (pos 0)
    (λ p before. cell-at_most (cell_flag across flags band (band_of ys p))) in
    omega (arith, so.each band fits, by_end, edge-le-end ys row are within, are.limit)

pub columns-more : (across : ℕ) (ys : List ℕ) (flags : List Bool) (size row amount : ℕ) (row_flags : List Bool) (old new : List ℕ)
    → AreEdges ys → row + 1 < length ys → amount + min (get_or ys row 0) size ≡ min (get_or ys (row + 1) 0) size
    → IsRow across flags row row_flags → AddsWhereFlagged row_flags amount old new
    → AreColumnsSoFar across ys flags size row old → AreColumnsSoFar across ys flags size (row + 1) new
columns-more across ys flags size row amount row_flags old new are within reached is adds so = record {
  enough = omega (arith, so.enough, adds.same_length);
  each = λ band fits.
      let order = edge-le ys row (row + 1) are (omega arith) within in
      let more = held-more size (get_or ys row 0) (get_or ys (row + 1) 0) amount (cell_value across flags band row)
      (banded ys (cell_value across flags band)) order reached
      (λ p low high. ap (cell_value across flags band) (band_of-between ys p row are within low high)) in
      let added = adds.each band (omega (arith, is.whole)) in
      let flag = ap (λ b. only_if b amount) (is.each band fits) in
      omega (arith, more, added, flag, so.each band fits, only_if-product (cell_flag across flags band row) amount);
}

pub columns-all : (across : ℕ) (ys : List ℕ) (flags : List Bool) (size row : ℕ) (columns : List ℕ) → row ≡ length ys - 1
    → AreColumnsSoFar across ys flags size row columns → AreColumns across ys flags size 0 columns
columns-all across ys flags size row columns last so =
    let end : get_or ys row 0 ≡ end_of ys = ap (λ k. get_or ys k 0) last in
    record {
      enough = so.enough;
      each = λ band fits. so.each band fits ∙ ap (λ limit. held size limit (banded ys (cell_value across flags band)) (pos 0)) end;
    }

-- over a stride
pub column-slides : (across : ℕ) (ys : List ℕ) (flags : List Bool) (window : Window) (stride band : ℕ) → AreEdges ys
    → IsWindow ys window → IsStride ys window stride
    → column_area across ys flags window.size band (pos (window.place + stride))
    + only_if (cell_flag across flags band window.first) stride
    ≡ column_area across ys flags window.size band (pos window.place) + only_if (cell_flag across flags band window.next) stride
column-slides across ys flags window stride band are is can =
    let slides = window-slides ys (cell_value across flags band) window stride are is can stride (omega arith) in
    omega (arith, slides, only_if-product (cell_flag across flags band window.first) stride, only_if-product (cell_flag across flags band window.next) stride)

pub column-bounded : (across : ℕ) (ys : List ℕ) (flags : List Bool) (size y : ℕ) (columns : List ℕ) → AreEdges ys
    → AreColumns across ys flags size y columns → (band : ℕ) → band < across → get_or columns band 0 ≤ 4096
column-bounded across ys flags size y columns are so band fits =
    let by_end = held-bounded size (end_of ys) 1 (banded ys (cell_value across flags band)) (pos y)
    (λ p before. cell-at_most (cell_flag across flags band (band_of ys p))) in
    omega (arith, so.each band fits, by_end, are.limit)

-- what the first row of cells of the window gives away is there
pub columns-room : (across : ℕ) (ys : List ℕ) (flags : List Bool) (window : Window) (stride : ℕ) (first_row next_row : List Bool)
    (old mid : List ℕ) → AreEdges ys → IsWindow ys window → IsStride ys window stride
    → AreColumns across ys flags window.size window.place old → IsRow across flags window.next next_row
    → AddsWhereFlagged next_row stride old mid → IsRow across flags window.first first_row
    → (band : ℕ) → band < length first_row → only_if (get_or first_row band false) stride ≤ get_or mid band 0
columns-room across ys flags window stride first_row next_row old mid are is can so next adds first band within =
    let fits : band < across = omega (arith, first.whole) in
    let lost = ap (λ b. only_if b stride) (first.each band fits) in
    let gained = ap (λ b. only_if b stride) (next.each band fits) in
    let added = adds.each band (omega (arith, next.whole)) in
    omega (arith, lost, gained, added, so.each band fits, column-slides across ys flags window stride band are is can)

pub columns-slid : (across : ℕ) (ys : List ℕ) (flags : List Bool) (window : Window) (stride : ℕ) (first_row next_row : List Bool)
    (old mid new : List ℕ) → AreEdges ys → IsWindow ys window → IsStride ys window stride
    → AreColumns across ys flags window.size window.place old → IsRow across flags window.next next_row
    → AddsWhereFlagged next_row stride old mid → IsRow across flags window.first first_row
    → TakesWhereFlagged first_row stride mid new
    → AreColumns across ys flags window.size (window.place + stride) new
columns-slid across ys flags window stride first_row next_row old mid new are is can so next adds first takes = record {
  enough = omega (arith, so.enough, adds.same_length, takes.same_length);
  each = λ band fits.
      let lost = ap (λ b. only_if b stride) (first.each band fits) in
      let gained = ap (λ b. only_if b stride) (next.each band fits) in
      let added = adds.each band (omega (arith, next.whole)) in
      let taken = takes.each band (omega (arith, first.whole)) in
      omega (arith, lost, gained, added, taken, so.each band fits, column-slides across ys flags window stride band are is can);
}
