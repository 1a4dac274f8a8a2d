-- A window of rows that slides over the viewport: what each band of columns holds, and the best position up to there.
use Rattle.std.proofs.Common.{ℕ, Bool, true, false, List, ◌≡◌, ◌+◌, ◌*◌, ◌<◌, ◌≤◌, ◌⊎◌, ◌∙◌, cond, arith, refl, sym, subst}
use Rattle.std.specs.Prelude.{nat_lt}
use Rattle.window_area.specs.declared.best.BestRow.{BestRow}
use Rattle.window_area.specs.declared.best.Lead.{Lead}
use Rattle.window_area.specs.declared.strip.Most.{Most}
use Rattle.window_area.specs.declared.window.Window.{Window}
use Rattle.window_area.specs.Edges.{AreEdges, bands, end_of}
use Rattle.window_area.specs.Sliding.{AreColumns, IsBestRow, IsFirstMost, IsLookedAt, is_behind, is_scanned, IsStride, IsWindow, area_at, strip_area}
use Rattle.window_area.proofs.AreaLemmas.{area-between, area-ended, strip_area-columns}
use Rattle.window_area.proofs.BoundLemmas.{area-in-size}
use Rattle.window_area.proofs.MostLemmas.{IsBestUpTo, above-all, best-begins, best-kept, best-next}

-- the best position up to a row is known, and a bound of what rectangles hold in that row
pub record IsLead (area : ℕ → ℕ → ℕ) (limit row : ℕ) (lead : Lead) : Type 0 where
  pub best_is : IsBestUpTo area limit row lead.best
  pub early : lead.best.most.place ≤ 4096
  pub bounded : (place : ℕ) → area place row ≤ lead.bound
  pub small : lead.bound ≤ 341 * 256

-- the window has come to a row, the columns hold its flagged pixels, and so far the best position is known
pub record IsRowScan (xs ys : List ℕ) (flags : List Bool) (limit : ℕ) (window : Window) (columns : List ℕ) (lead : Lead) : Type 0 where
  pub window_is : IsWindow ys window
  pub size_is : window.size ≡ 256
  pub columns_are : AreColumns (bands xs) ys flags window.size window.place columns
  pub lead_is : IsLead (area_at xs ys flags) limit window.place lead

-- the most of a strip is the most of the row
row-most : (xs ys : List ℕ) (flags : List Bool) (y : ℕ) (columns : List ℕ) (most : Most) → AreEdges xs
    → AreColumns (bands xs) ys flags 256 y columns → IsFirstMost (strip_area xs columns 341) most
    → IsFirstMost (λ place. area_at xs ys flags place y) most
row-most xs ys flags y columns most are so is = record {
  has = sym (strip_area-columns xs ys flags y columns are so most.place) ∙ is.has;
  greatest = λ place. omega (arith, is.greatest place, strip_area-columns xs ys flags y columns are so place);
  first = λ place as_much. is.first place (omega (arith, strip_area-columns xs ys flags y columns are so place));
}

early-of : (b : Bool) (later best : BestRow) → later.most.place ≤ 4096 → best.most.place ≤ 4096
    → (cond b later best).most.place ≤ 4096
early-of true later best first second = first
early-of false later best first second = second

-- the first row is the best, or the limit stands
abbrev pub first_best : ℕ → Most → BestRow
first_best limit most =
    cond (nat_lt limit most.area) (record { row = 0; most = most }) (record { row = 0; most = record { area = limit; place = 0 } })

pub row_scan-begins : (xs ys : List ℕ) (flags : List Bool) (limit : ℕ) (window : Window) (columns : List ℕ) (most : Most) (best : BestRow)
    → AreEdges xs → IsWindow ys window → window.size ≡ 256 → window.place ≡ 0 → AreColumns (bands xs) ys flags 256 0 columns
    → IsFirstMost (strip_area xs columns 341) most → most.place ≤ 4096 → best ≡ first_best limit most
    → IsRowScan xs ys flags limit window columns (record { best = best; bound = most.area })
row_scan-begins xs ys flags limit window columns most best are is size zero so first early best_is =
    let in_row = row-most xs ys flags 0 columns most are so first in
    record {
      window_is = is;
      size_is = size;
      columns_are = rw (size, zero) so;
      lead_is = rw (zero, best_is) record {
        best_is = best-begins (area_at xs ys flags) limit most in_row;
        early = early-of (nat_lt limit most.area) (record { row = 0; most = most }) (record { row = 0; most = record { area = limit; place = 0 } })
            early (omega arith);
        bounded = in_row.greatest;
        small = omega (arith, in_row.has, area-in-size xs ys flags most.place 0);
      };
    }

-- the row a stride further down is looked at
lead-next : (area : ℕ → ℕ → ℕ) (xs columns : List ℕ) (limit row stride bound : ℕ) (lead after : Lead)
    → IsLead area limit row lead
    → ((place t : ℕ) → t < stride → (area place (row + t) ≤ area place row) ⊎ (area place (row + t) < area place (row + stride)))
    → ((place : ℕ) → area place (row + stride) ≤ bound) → bound ≤ 341 * 256 → ((x y : ℕ) → area x y ≤ 341 * 256)
    → ((most : Most) → IsFirstMost (strip_area xs columns 341) most → IsFirstMost (λ place. area place (row + stride)) most)
    → IsLookedAt xs columns (row + stride) (record { best = lead.best; bound = bound }) after
    → IsLead area limit (row + stride) after
lead-next area xs columns limit row stride bound lead after so between bounded small whole of_row (is_behind behind same) =
    subst (IsLead area limit (row + stride)) (sym same) record {
      best_is = best-kept area limit row stride lead.best so.best_is (λ place. omega (arith, bounded place, behind)) between;
      early = so.early;
      bounded = bounded;
      small = small;
    }
lead-next area xs columns limit row stride bound lead after so between bounded small whole of_row (is_scanned most first early bound_is best_is) =
    let in_row = of_row most first in
    record {
      best_is = subst (IsBestUpTo area limit (row + stride)) (sym best_is)
          (best-next area limit row stride lead.best (record { row = row + stride; most = most }) so.best_is refl in_row between);
      early = subst (λ (best : BestRow). best.most.place ≤ 4096) (sym best_is)
          (early-of (nat_lt lead.best.most.area most.area) (record { row = row + stride; most = most }) lead.best early so.early);
      bounded = λ place. omega (arith, bound_is, in_row.greatest place);
      small = omega (arith, bound_is, in_row.has, whole most.place (row + stride));
    }

pub row_scan-next : (xs ys : List ℕ) (flags : List Bool) (limit : ℕ) (window : Window) (old : List ℕ) (lead : Lead) (stride bound : ℕ)
    (slid : Window) (new : List ℕ) (after : Lead) → AreEdges xs → AreEdges ys → IsRowScan xs ys flags limit window old lead
    → IsStride ys window stride → IsWindow ys slid → slid.place ≡ window.place + stride → slid.size ≡ window.size
    → AreColumns (bands xs) ys flags window.size (window.place + stride) new
    → ((place : ℕ) → area_at xs ys flags place (window.place + stride) ≤ bound) → bound ≤ 341 * 256
    → IsLookedAt xs new slid.place (record { best = lead.best; bound = bound }) after
    → IsRowScan xs ys flags limit slid new after
row_scan-next xs ys flags limit window old lead stride bound slid new after across are scan can is there same so bounded small looked = record {
  window_is = is;
  size_is = same ∙ scan.size_is;
  columns_are = rw (same, there) so;
  lead_is = rw there (lead-next (area_at xs ys flags) xs new limit window.place stride bound lead after scan.lead_is
      (area-between xs ys flags window stride are scan.size_is scan.window_is can) bounded small (area-in-size xs ys flags)
      (λ most first. row-most xs ys flags (window.place + stride) new most across (subst (λ size. AreColumns (bands xs) ys flags size (window.place + stride) new) scan.size_is so) first)
      (subst (λ row. IsLookedAt xs new row (record { best = lead.best; bound = bound }) after) there looked));
}

pub row_scan-ends : (xs ys : List ℕ) (flags : List Bool) (limit : ℕ) (window : Window) (columns : List ℕ) (lead : Lead)
    → IsRowScan xs ys flags limit window columns lead → end_of ys ≤ window.place + window.size
    → IsBestRow xs ys flags limit lead.best.row lead.best.most.place lead.best.most.area
row_scan-ends xs ys flags limit window columns lead scan ends =
    let reaches : end_of ys ≤ window.place + 256 = omega (arith, scan.size_is) in
    let above = λ (x y : ℕ). above-all (area_at xs ys flags x) window.place lead.best.most.area lead.best.row (scan.lead_is.best_is.above x) scan.lead_is.best_is.fits
    (λ later after. area-ended xs ys flags window.place reaches x later after) y in
    record {
      least = scan.lead_is.best_is.least;
      has = scan.lead_is.best_is.has;
      greatest = λ x y. (above x y).0;
      first_row = λ x y as_much. (above x y).1 as_much;
      first_column = scan.lead_is.best_is.first;
    }
