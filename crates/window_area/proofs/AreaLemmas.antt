-- The flagged area as what a window of columns holds, each column with what a window of rows holds.
use Rattle.std.proofs.Common.{ℕ, Bool, true, false, List, ◌≡◌, ◌+◌, ◌*◌, ◌<◌, ◌≤◌, ◌⊎◌, ◌∙◌, cond, arith, refl, sym, subst, inl, inr}
use Rattle.std.specs.Prelude.{ℤ, pos, negsuc, ◌&&◌}
use Rattle.std.proofs.lemmas.Bool.{cases_lt}
use Rattle.page_model.specs.Flash.{sum_below}
use Rattle.window_area.specs.declared.window.Window.{Window}
use Rattle.window_area.specs.Edges.{AreEdges, band_of, bands, end_of}
use Rattle.window_area.specs.FlaggedArea.{flagged_area, has_place, is_flagged, in_rectangle}
use Rattle.window_area.specs.Sliding.{AreColumns, AreWeights, IsStride, IsWindow, area_at, band_weight, column_area, held, only_if, strip_area}
use Rattle.window_area.proofs.BandLemmas.{band_of-below}
use Rattle.window_area.proofs.ColumnLemmas.{cell_value, column-bounded}
use Rattle.window_area.proofs.HeldLemmas.{held-ended, held-le, held-negative, held-same, held-steps, no_more_within}
use Rattle.window_area.proofs.SlideLemmas.{banded, window-slides}
use Rattle.window_area.proofs.SumLemmas.{sum-none, sum-same}

-- what a column of pixels counts
abbrev pub column_weight : List ℕ → List ℕ → List Bool → ℤ → ℕ → ℕ
column_weight xs ys flags y column = column_area (bands xs) ys flags 256 (band_of xs column) y

one-column : (height : ℕ) (across : Bool) (down flag : ℕ → Bool)
    → sum_below height (λ row. cond ((across && down row) && flag row) 1 0)
    ≡ only_if across (sum_below height (λ row. only_if (down row) (cond (flag row) 1 0)))
one-column height true down flag =
    sum-same height (λ row. cond (down row && flag row) 1 0) (λ row. only_if (down row) (cond (flag row) 1 0))
    (λ row below. one (down row) (flag row)) where
      one : (b f : Bool) → cond {A = ℕ} (b && f) 1 0 ≡ only_if b (cond f 1 0)
      one true f = refl
      one false f = refl
one-column height false down flag = sum-none height (λ row. 0) (λ row below. refl)

pub flagged_area-held : (xs ys : List ℕ) (flags : List Bool) (x y : ℤ)
    → flagged_area xs ys flags x y ≡ held 341 (end_of xs) (column_weight xs ys flags y) x
unfolding flagged_area held
flagged_area-held xs ys flags x y =
    sum-same (end_of xs)
    (λ column. sum_below (end_of ys) (λ row. cond (in_rectangle x y column row && is_flagged xs ys flags column row) 1 0))
    (λ column. only_if (has_place 341 x column) (column_weight xs ys flags y column))
    (λ column below. one-column (end_of ys) (has_place 341 x column) (has_place 256 y) (is_flagged xs ys flags column))

-- the columns as weights of a strip
pub columns-weights : (xs ys : List ℕ) (flags : List Bool) (size y : ℕ) (columns : List ℕ) → AreEdges ys
    → AreColumns (bands xs) ys flags size y columns → AreWeights xs columns
columns-weights xs ys flags size y columns are so = record {
  enough = so.enough;
  small = column-bounded (bands xs) ys flags size y columns are so;
}

pub strip_area-columns : (xs ys : List ℕ) (flags : List Bool) (y : ℕ) (columns : List ℕ) → AreEdges xs
    → AreColumns (bands xs) ys flags 256 y columns → (place : ℕ) → strip_area xs columns 341 place ≡ area_at xs ys flags place y
strip_area-columns xs ys flags y columns are so place =
    held-same 341 (end_of xs) (band_weight xs columns) (column_weight xs ys flags (pos y)) (pos place)
    (λ p before. so.each (band_of xs p) (band_of-below xs p are before))
    ∙ sym (flagged_area-held xs ys flags (pos place) (pos y))

-- over a stride of the rows
pub area-slides : (xs ys : List ℕ) (flags : List Bool) (window : Window) (stride place : ℕ) → AreEdges ys → window.size ≡ 256
    → IsWindow ys window → IsStride ys window stride → (t : ℕ) → t ≤ stride
    → area_at xs ys flags place (window.place + t)
    + t * held 341 (end_of xs) (λ p. cell_value (bands xs) flags (band_of xs p) window.first) (pos place)
    ≡ area_at xs ys flags place window.place
    + t * held 341 (end_of xs) (λ p. cell_value (bands xs) flags (band_of xs p) window.next) (pos place)
area-slides xs ys flags window stride place are size is can t fits =
    let slides = held-steps 341 (end_of xs) t (column_weight xs ys flags (pos (window.place + t))) (column_weight xs ys flags (pos window.place))
    (λ p. cell_value (bands xs) flags (band_of xs p) window.first) (λ p. cell_value (bands xs) flags (band_of xs p) window.next) (pos place)
    (λ p before. subst (λ s. column_area (bands xs) ys flags s (band_of xs p) (pos (window.place + t)) + t * cell_value (bands xs) flags (band_of xs p) window.first
    ≡ column_area (bands xs) ys flags s (band_of xs p) (pos window.place) + t * cell_value (bands xs) flags (band_of xs p) window.next) size
    (window-slides ys (cell_value (bands xs) flags (band_of xs p)) window stride are is can t fits)) in
    omega (arith, slides, flagged_area-held xs ys flags (pos place) (pos (window.place + t)), flagged_area-held xs ys flags (pos place) (pos window.place))

pub area-between : (xs ys : List ℕ) (flags : List Bool) (window : Window) (stride : ℕ) → AreEdges ys → window.size ≡ 256
    → IsWindow ys window → IsStride ys window stride → (place t : ℕ) → t < stride
    → (area_at xs ys flags place (window.place + t) ≤ area_at xs ys flags place window.place)
    ⊎ (area_at xs ys flags place (window.place + t) < area_at xs ys flags place (window.place + stride))
area-between xs ys flags window stride are size is can place t less =
    no_more_within (area_at xs ys flags place (window.place + t)) (area_at xs ys flags place window.place)
    (area_at xs ys flags place (window.place + stride)) t stride
    (held 341 (end_of xs) (λ p. cell_value (bands xs) flags (band_of xs p) window.next) (pos place))
    (held 341 (end_of xs) (λ p. cell_value (bands xs) flags (band_of xs p) window.first) (pos place))
    (area-slides xs ys flags window stride place are size is can t (omega arith))
    (area-slides xs ys flags window stride place are size is can stride (omega arith)) less

-- where the last row is held, no later row has more
pub area-ended : (xs ys : List ℕ) (flags : List Bool) (y : ℕ) → end_of ys ≤ y + 256 → (place later : ℕ) → y ≤ later
    → area_at xs ys flags place later ≤ area_at xs ys flags place y
area-ended xs ys flags y ends place later after =
    let less = held-le 341 (end_of xs) (column_weight xs ys flags (pos later)) (column_weight xs ys flags (pos y)) (pos place)
    (λ p before. held-ended 256 (end_of ys) (banded ys (cell_value (bands xs) flags (band_of xs p))) y later ends after) in
    omega (arith, less, flagged_area-held xs ys flags (pos place) (pos later), flagged_area-held xs ys flags (pos place) (pos y))

-- what has no more from 0 on has no more anywhere
pub area-anywhere : (xs ys : List ℕ) (flags : List Bool) (most : ℕ) → ((x y : ℕ) → area_at xs ys flags x y ≤ most)
    → (x y : ℤ) → flagged_area xs ys flags x y ≤ most
area-anywhere xs ys flags most no_more x y =
    no_more_row x y where
      no_more_column : (x : ℤ) (y : ℕ) → flagged_area xs ys flags x (pos y) ≤ most
      no_more_column (pos x) y = no_more x y
      no_more_column (negsuc a) y =
          omega (
            arith,
            held-negative 341 (end_of xs) (column_weight xs ys flags (pos y)) a,
            no_more 0 y,
            flagged_area-held xs ys flags (negsuc a) (pos y),
            flagged_area-held xs ys flags (pos 0) (pos y),
          )

      no_more_row : (x y : ℤ) → flagged_area xs ys flags x y ≤ most
      no_more_row x (pos y) = no_more_column x y
      no_more_row x (negsuc b) =
          let less = held-le 341 (end_of xs) (column_weight xs ys flags (negsuc b)) (column_weight xs ys flags (pos 0)) x
          (λ p before. held-negative 256 (end_of ys) (banded ys (cell_value (bands xs) flags (band_of xs p))) b) in
          omega (arith, less, no_more_column x 0, flagged_area-held xs ys flags x (negsuc b), flagged_area-held xs ys flags x (pos 0))

-- what is held where something is, is held where nothing is
pub area-held : (xs ys : List ℕ) (flags : List Bool) (x y most : ℕ) → (0 < most → area_at xs ys flags x y ≡ most)
    → area_at xs ys flags x y ≤ most → area_at xs ys flags x y ≡ most
area-held xs ys flags x y most has no_more =
    elim (cases_lt 0 most) [
      | inl some ↦ has some
      | inr none ↦ omega arith
    ]
