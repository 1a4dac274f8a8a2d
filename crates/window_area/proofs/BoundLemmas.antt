-- What a rectangle holds at most: as many pixels as it has, and in a row no more than are flagged there. So a bound for one row gives
-- one for the row a stride further down.
use Rattle.std.proofs.Common.{ℕ, zero, suc, Bool, true, false, List, ◌≡◌, ◌+◌, ◌-◌, ◌*◌, ◌<◌, ◌≤◌, arith, refl, inl, inr}
use Rattle.std.specs.Prelude.{pos, min, nat_le, nat_lt, ◌&&◌}
use Rattle.std.proofs.Math.Nat.{mul-le-mul_left, mul-le-mul_right}
use Rattle.std.proofs.lemmas.Bool.{and_right, cases_lt, le-leb, le-ltb, lt-leb, lt-ltb}
use Rattle.page_model.specs.Flash.{sum_below}
use Rattle.window_area.specs.declared.window.Window.{Window}
use Rattle.window_area.specs.Edges.{AreEdges, band_of, bands, end_of}
use Rattle.window_area.specs.FlaggedArea.{cell_flag, has_place}
use Rattle.window_area.specs.Sliding.{IsRow, IsStride, IsWindow, area_at, held, only_if, row_width}
use Rattle.window_area.proofs.AreaLemmas.{area-slides, column_weight, flagged_area-held}
use Rattle.window_area.proofs.ColumnLemmas.{cell-at_most, cell_value}
use Rattle.window_area.proofs.SlideLemmas.{banded}
use Rattle.window_area.proofs.SumLemmas.{sum-le}
use Rattle.window_area.proofs.WidthLemmas.{row_width-cells}

-- a place is one of a window's that begins at a place from 0 on
abbrev inside : ℕ → ℕ → ℕ → Bool
inside size x place = nat_le x place && nat_lt place (x + size)

-- of the places before one, as many are in the window as lie behind its begin, and no more than its size
counted : (size bound : ℕ) (weight : ℕ → ℕ) (x n : ℕ) → ((p : ℕ) → p < n → weight p ≤ bound)
    → sum_below n (λ p. only_if (inside size x p) (weight p)) ≤ min (n - x) size * bound
counted size bound weight x zero small = omega arith
counted size bound weight x (suc n) small =
    let before = counted size bound weight x n (λ p less. small p (omega arith)) in
    elim (cases_lt n x) [
      | inl early ↦
          let none : only_if (inside size x n) (weight n) ≡ 0 = rw (lt-leb x n early) refl in
          let same : min (suc n - x) size ≡ min (n - x) size = omega arith in
          rw same (omega (arith, before, none))
      | inr behind ↦ elim (cases_lt n (x + size)) [
        | inl within ↦
            let whole : only_if (inside size x n) (weight n) ≡ weight n = rw (le-leb x n behind, lt-ltb n (x + size) within) refl in
            let one : min (suc n - x) size ≡ suc (min (n - x) size) = omega arith in
            rw one (omega (arith, before, whole, small n (omega arith)))
        | inr late ↦
            let none : only_if (inside size x n) (weight n) ≡ 0 = rw (and_right (nat_le x n) (nat_lt n (x + size)) (le-ltb n (x + size) late)) refl in
            let same : min (suc n - x) size ≡ min (n - x) size = omega arith in
            rw same (omega (arith, before, none))
      ]
    ]

-- a window has no more places than its size
held-in-size : (size limit bound : ℕ) (weight : ℕ → ℕ) (x : ℕ) → ((p : ℕ) → p < limit → weight p ≤ bound)
    → held size limit weight (pos x) ≤ size * bound
unfolding held
held-in-size size limit bound weight x small =
    let few : min (limit - x) size ≤ size = omega arith in
    omega (arith, counted size bound weight x limit small, mul-le-mul_right bound few)

-- and holds no more than all places
held-le-all : (size limit : ℕ) (weight : ℕ → ℕ) (x : ℕ) → held size limit weight (pos x) ≤ sum_below limit weight
unfolding held
held-le-all size limit weight x =
    sum-le limit (λ p. only_if (has_place size (pos x) p) (weight p)) weight
    (λ p below. no_more (has_place size (pos x) p) (weight p)) where
      no_more : (b : Bool) (c : ℕ) → only_if b c ≤ c
      no_more true c = omega arith
      no_more false c = omega arith

-- a rectangle has 341 by 256 pixels
pub area-in-size : (xs ys : List ℕ) (flags : List Bool) (x y : ℕ) → area_at xs ys flags x y ≤ 341 * 256
area-in-size xs ys flags x y =
    let all = held-in-size 341 (end_of xs) 256 (column_weight xs ys flags (pos y)) x column in
    omega (arith, all, flagged_area-held xs ys flags (pos x) (pos y)) where
      column : (p : ℕ) → p < end_of xs → column_weight xs ys flags (pos y) p ≤ 256
      column p before =
          let one = held-in-size 256 (end_of ys) 1 (banded ys (cell_value (bands xs) flags (band_of xs p))) y
          (λ q below. cell-at_most (cell_flag (bands xs) flags (band_of xs p) (band_of ys q))) in
          omega (arith, one)

-- a row of pixels that comes in has at most its flagged ones, and at most 341 of them
row-gain : (xs : List ℕ) (flags row_flags : List Bool) (row width place : ℕ) → AreEdges xs → IsRow (bands xs) flags row row_flags
    → width ≡ row_width xs row_flags
    → held 341 (end_of xs) (λ p. cell_value (bands xs) flags (band_of xs p) row) (pos place) ≤ min width 341
row-gain xs flags row_flags row width place are is width_is =
    let few = held-in-size 341 (end_of xs) 1 (λ p. cell_value (bands xs) flags (band_of xs p) row) place
    (λ p before. cell-at_most (cell_flag (bands xs) flags (band_of xs p) row)) in
    let all = held-le-all 341 (end_of xs) (λ p. cell_value (bands xs) flags (band_of xs p) row) place in
    omega (arith, few, all, width_is, row_width-cells xs flags row_flags row are is)

pub bound-next : (xs ys : List ℕ) (flags row_flags : List Bool) (window : Window) (stride width bound : ℕ) → AreEdges xs → AreEdges ys
    → window.size ≡ 256 → IsWindow ys window → IsStride ys window stride → IsRow (bands xs) flags window.next row_flags
    → width ≡ row_width xs row_flags → ((place : ℕ) → area_at xs ys flags place window.place ≤ bound)
    → (place : ℕ) → area_at xs ys flags place (window.place + stride) ≤ min (bound + stride * min width 341) (341 * 256)
bound-next xs ys flags row_flags window stride width bound across are size is can row width_is bounded place =
    let slides = area-slides xs ys flags window stride place are size is can stride (omega arith) in
    let gain = mul-le-mul_left stride (row-gain xs flags row_flags window.next width place across row width_is) in
    omega (arith, slides, gain, bounded place, area-in-size xs ys flags place (window.place + stride))
