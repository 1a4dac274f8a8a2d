-- Where nothing is flagged no window has many flags, and where the possible flags are few, so are the sure ones
-- among them.
use Rattle.std.proofs.Common.{◌≡◌, ◌∙◌, ℕ, zero, suc, ◌+◌, ◌*◌, ◌≤◌, Bool, true, false, List, [], ◌∷◌, Option}
use Rattle.std.proofs.Common.{cond, inl, inr, length, map, get_or, arith, refl, subst, sym}
use Rattle.std.specs.Prelude.{ℤ, ◌&&◌, All, IsNone, IsTrue, None, Some}
use Rattle.std.proofs.lemmas.Bool.{cases_lt}
use Rattle.std.proofs.lemmas.List.{get_or_past, length-map}
use Rattle.std.proofs.lemmas.List.Elements.{All-get_or}
use Rattle.page_model.specs.declared.witness.BadWindow.{BadWindow}
use Rattle.page_model.specs.Cells.{cells_between}
use Rattle.page_model.specs.Flash.{sum_below}
use Rattle.cell_groups.specs.Groups.{Grouping, group_of}
use Rattle.flash_count.specs.declared.tracking.Flag.{Flag}
use Rattle.region_split.specs.Cutting.{Edges}
use Rattle.window_area.specs.Edges.{bands, band_of, end_of}
use Rattle.window_area.specs.FlaggedArea.{flagged_area, in_rectangle, is_flagged}
use Rattle.window_area.proofs.SumLemmas.{sum-le, sum-none}
use Rattle.sweep.specs.declared.windows.Sort.{Sort}
use Rattle.sweep.specs.declared.windows.Sort.TheVariants.{Possible, Sure}
use Rattle.sweep.specs.Few.{AreNested, AreUnflagged, IsNested, IsUnflagged}
use Rattle.sweep.specs.Told.{AreFew, AreMarks, HaveFlags, IsLookedAt, spread, told, unflagged}
use Rattle.sweep.proofs.GroupLemmas.{spread-at}

-- what holds of each flag of a list, and of none, holds of any that is asked
flag-each : (Is : Flag → Type 0) (flags : List Flag) (number : ℕ) → Is unflagged → All Is flags
    → Is (get_or flags number unflagged)
flag-each Is flags number none all =
    elim (cases_lt number (length flags)) [
      | inl within ↦ All-get_or Is flags number unflagged within all
      | inr past ↦ subst Is (sym (get_or_past flags number unflagged past)) none
    ]

-- so it is with the flags of all cells
spread-each : (Is : Flag → Type 0) (groups : Grouping) (flags : List Flag) (cell : ℕ) → Is unflagged → All Is flags
    → Is (get_or (spread groups flags) cell unflagged)
spread-each Is groups flags cell none all =
    let long : length (spread groups flags) ≡ length groups.of = length-map groups.of _ in
    elim (cases_lt cell (length groups.of)) [
      | inl known ↦
          let own = flag-each Is flags (group_of groups cell) none all in
          subst Is (sym (spread-at groups flags cell known)) own
      | inr past ↦ subst Is (sym (get_or_past (spread groups flags) cell unflagged (omega (arith, long, past)))) none
    ]

-- the marks of all cells, by their flags
marks-of : Sort → List Flag → List Bool
marks-of sort flags = map (told sort) flags

mark-at : (sort : Sort) (flags : List Flag) (cell : ℕ)
    → get_or (marks-of sort flags) cell false ≡ told sort (get_or flags cell unflagged)
unfolding marks-of
mark-at Possible [] cell = refl
mark-at Sure [] cell = refl
mark-at sort (flag ∷ flags) zero = refl
mark-at sort (flag ∷ flags) (suc cell) = mark-at sort flags cell

are-marks : (sort : Sort) (edges : Edges) (groups : Grouping) (flags : List Flag) → HaveFlags edges groups flags
    → AreMarks sort edges (spread groups flags) (marks-of sort (spread groups flags))
unfolding marks-of
are-marks sort edges groups flags have = record {
  all = length-map (spread groups flags) (told sort) ∙ length-map groups.of _ ∙ have.all;
  each = λ cell known. mark-at sort (spread groups flags) cell;
}

-- the number of a cell in which a pixel lies
abbrev cell-at : List ℕ → List ℕ → ℕ → ℕ → ℕ
cell-at xs ys column row = band_of ys row * bands xs + band_of xs column

-- whether a pixel counts for the rectangle at a position, by the marks of all cells
abbrev counts : List ℕ → List ℕ → List Bool → ℤ → ℤ → ℕ → ℕ → ℕ
counts xs ys marks x y column row = cond (in_rectangle x y column row && is_flagged xs ys marks column row) 1 0

abbrev column-counts : List ℕ → List ℕ → List Bool → ℤ → ℤ → ℕ → ℕ
column-counts xs ys marks x y column = sum_below (end_of ys) (counts xs ys marks x y column)

none-counts : (inside marked : Bool) → marked ≡ false → cond {A = ℕ} (inside && marked) 1 0 ≡ 0
none-counts true marked is = rw is refl
none-counts false marked is = refl

fewer-count : (inside few many : Bool) → (IsTrue few → IsTrue many)
    → cond {A = ℕ} (inside && few) 1 0 ≤ cond (inside && many) 1 0
fewer-count true true many among = rw (among refl) (omega arith)
fewer-count true false many among = omega arith
fewer-count false few many among = omega arith

-- where no cell is marked the rectangle holds nothing
area-none : (xs ys : List ℕ) (marks : List Bool) → ((cell : ℕ) → get_or marks cell false ≡ false) → (x y : ℤ)
    → flagged_area xs ys marks x y ≡ 0
unfolding flagged_area
area-none xs ys marks none x y =
    sum-none (end_of xs) (column-counts xs ys marks x y) (λ column within.
    sum-none (end_of ys) (counts xs ys marks x y column) (λ row under.
    none-counts (in_rectangle x y column row) (is_flagged xs ys marks column row) (none (cell-at xs ys column row))))

-- it never holds more of some marked cells than of them all
area-less : (xs ys : List ℕ) (few many : List Bool)
    → ((cell : ℕ) → IsTrue (get_or few cell false) → IsTrue (get_or many cell false)) → (x y : ℤ)
    → flagged_area xs ys few x y ≤ flagged_area xs ys many x y
unfolding flagged_area
area-less xs ys few many among x y =
    sum-le (end_of xs) (column-counts xs ys few x y) (column-counts xs ys many x y) (λ column within.
    sum-le (end_of ys) (counts xs ys few x y column) (counts xs ys many x y column) (λ row under.
    fewer-count (in_rectangle x y column row) (is_flagged xs ys few column row) (is_flagged xs ys many column row)
    (among (cell-at xs ys column row))))

told-none : (sort : Sort) (flag : Flag) → IsUnflagged flag → told sort flag ≡ false
told-none Possible flag none = none.0
told-none Sure flag none = none.1

few-none : (sort : Sort) (edges : Edges) (groups : Grouping) (flags : List Flag) → HaveFlags edges groups flags
    → AreUnflagged flags → AreFew sort edges (spread groups flags)
few-none sort edges groups flags have none =
    let all : List Flag = spread groups flags in
    let unmarked : (cell : ℕ) → get_or (marks-of sort all) cell false ≡ false =
    λ cell.
    let own = spread-each IsUnflagged groups flags cell (refl, refl) none in
    mark-at sort all cell ∙ told-none sort (get_or all cell unflagged) own in
    record {
      marks = marks-of sort all;
      are = are-marks sort edges groups flags have;
      few = λ x y. let area = area-none edges.xs edges.ys (marks-of sort all) unmarked x y in omega (arith, area);
    }

-- a cell that is surely marked is one of those that are possibly marked
among-marks : (edges : Edges) (groups : Grouping) (flags : List Flag) (marks : List Bool)
    → HaveFlags edges groups flags
    → AreNested flags → AreMarks Possible edges (spread groups flags) marks → (cell : ℕ)
    → IsTrue (get_or (marks-of Sure (spread groups flags)) cell false) → IsTrue (get_or marks cell false)
among-marks edges groups flags marks have nested are cell marked =
    let all : List Flag = spread groups flags in
    let sure : IsTrue (get_or all cell unflagged).sure = sym (mark-at Sure all cell) ∙ marked in
    let possible : IsTrue (get_or all cell unflagged).possible =
    spread-each IsNested groups flags cell (λ is. is) nested sure in
    let long : length all ≡ cells_between edges.xs edges.ys = length-map groups.of _ ∙ have.all in
    elim (cases_lt cell (cells_between edges.xs edges.ys)) [
      | inl known ↦ are.each cell known ∙ possible
      | inr past ↦
          let none : get_or all cell unflagged ≡ unflagged =
          get_or_past all cell unflagged (omega (arith, long, past)) in
          absurd (unmarked (get_or all cell unflagged) none sure)
    ] where
      unmarked : (flag : Flag) → flag ≡ unflagged → IsTrue flag.sure → ⊥
      unmarked flag none is = cc

few-sure : (edges : Edges) (groups : Grouping) (flags : List Flag) → HaveFlags edges groups flags → AreNested flags
    → AreFew Possible edges (spread groups flags) → AreFew Sure edges (spread groups flags)
few-sure edges groups flags have nested possible =
    let marks : List Bool = marks-of Sure (spread groups flags) in
    record {
      marks = marks;
      are = are-marks Sure edges groups flags have;
      few = λ x y.
          let least = possible.few x y in
          let among = among-marks edges groups flags possible.marks have nested possible.are in
          let less = area-less edges.xs edges.ys marks possible.marks among x y in
          omega (arith, least, less);
    }

-- where nothing is flagged, what was found stays, and nothing else is found
pub looked-none : (sort : Sort) (edges : Edges) (groups : Grouping) (flags : List Flag) (start : ℕ)
    (found : Option BadWindow) → HaveFlags edges groups flags → AreUnflagged flags
    → IsLookedAt sort edges (spread groups flags) start found found
looked-none sort edges groups flags start None have none = few-none sort edges groups flags have none
looked-none sort edges groups flags start (Some window) have none = refl

-- where the possible flags are few, no window is found by the sure ones among them
pub looked-few : (edges : Edges) (groups : Grouping) (flags : List Flag) (start : ℕ)
    (sure before possible : Option BadWindow) → HaveFlags edges groups flags → AreNested flags → IsNone possible
    → IsLookedAt Possible edges (spread groups flags) start before possible
    → IsLookedAt Sure edges (spread groups flags) start sure sure
looked-few edges groups flags start (Some window) before possible have nested none looked = refl
looked-few edges groups flags start None None None have nested none looked =
    few-sure edges groups flags have nested looked
looked-few edges groups flags start None None (Some window) have nested none looked = absurd (cc)
looked-few edges groups flags start None (Some window) None have nested none looked = absurd (cc)
looked-few edges groups flags start None (Some window) (Some other) have nested none looked = absurd (cc)
