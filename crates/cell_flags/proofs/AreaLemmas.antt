-- What the rectangle holds of marked cells, where these tell the flags of pixels.
use Rattle.std.proofs.Common.{◌≡◌, ℕ, Bool, ◌<◌, ◌≤◌, List, arith, refl, subst, sym}
use Rattle.std.specs.Prelude.{ℤ, false, ◌&&◌, ◌↔◌, IsTrue, slice_index_or}
use Rattle.std.proofs.lemmas.Bool.{and_from, and_parts}
use Rattle.page_model.specs.declared.setup.Setup.{Setup}
use Rattle.page_model.specs.Flash.{HasManyFlagged, IsInRectangle, area}
use Rattle.flash_laws.proofs.FlagLemmas.{many-carried}
use Rattle.flash_laws.proofs.MarkLemmas.{area-le}
use Rattle.page_model.specs.Cells.{cells_between}
use Rattle.region_split.specs.Cutting.{Edges, IsInside, cell_of}
use Rattle.window_area.specs.Edges.{end_of}
use Rattle.window_area.specs.FlaggedArea.{flagged_area, in_rectangle, is_flagged}
use Rattle.window_area.proofs.MarkedLemmas.{in_rectangle-holds, in_rectangle-means}
use Rattle.cell_flags.specs.Marks.{CountsFlagged, IsBest, IsFirstMost, MarksTell}
use Rattle.cell_flags.proofs.SideLemmas.{AreSides, cell_at, cell_at-inside, cell_at-known}

-- each cell is marked exactly where each of its pixels is flagged
abbrev pub CellsTell : (ℕ → ℕ → Type 0) → Edges → List Bool → Type 0
CellsTell Flagged edges marks =
    (cell column row : ℕ) → cell < cells_between edges.xs edges.ys → IsInside (cell_of edges.xs edges.ys cell) column row
    → (IsTrue (slice_index_or marks cell false) ↔ Flagged column row)

-- so the marks tell all flagged pixels
pub cells-tell : (Flagged : ℕ → ℕ → Type 0) (setup : Setup) (edges : Edges) (marks : List Bool) → AreSides setup edges
    → CellsTell Flagged edges marks → MarksTell Flagged setup edges marks
cells-tell Flagged setup edges marks sides tells column row within below =
    let right : column < end_of edges.xs = omega (arith, within, sides.width) in
    let under : row < end_of edges.ys = omega (arith, below, sides.height) in
    tells (cell_at edges column row) column row (cell_at-known edges column row sides.columns sides.rows right under)
    (cell_at-inside edges column row sides.columns sides.rows right under)

-- all flagged pixels in the rectangle
abbrev held : Edges → List Bool → ℤ → ℤ → ℕ → ℕ → Bool
held edges marks x y column row = in_rectangle x y column row && is_flagged edges.xs edges.ys marks column row

held-area : (setup : Setup) (edges : Edges) (marks : List Bool) (x y : ℤ) → AreSides setup edges
    → area setup.width setup.height (held edges marks x y) ≡ flagged_area edges.xs edges.ys marks x y
unfolding flagged_area
held-area setup edges marks x y sides =
    subst (λ w. area w setup.height (held edges marks x y) ≡ area (end_of edges.xs) (end_of edges.ys) (held edges marks x y)) sides.width
    (subst (λ h. area (end_of edges.xs) h (held edges marks x y) ≡ area (end_of edges.xs) (end_of edges.ys) (held edges marks x y)) sides.height refl)

held-parts : (edges : Edges) (marks : List Bool) (x y : ℤ) (column row : ℕ) → IsTrue (held edges marks x y column row)
    → IsInRectangle x y column row × IsTrue (is_flagged edges.xs edges.ys marks column row)
held-parts edges marks x y column row is =
    let parts = and_parts (in_rectangle x y column row) (is_flagged edges.xs edges.ys marks column row) is in
    (in_rectangle-means x y column row parts.0, parts.1)

held-from : (edges : Edges) (marks : List Bool) (x y : ℤ) (column row : ℕ) → IsInRectangle x y column row
    → IsTrue (is_flagged edges.xs edges.ys marks column row) → IsTrue (held edges marks x y column row)
held-from edges marks x y column row inside flagged =
    and_from (in_rectangle x y column row) (is_flagged edges.xs edges.ys marks column row) (in_rectangle-holds x y column row inside) flagged

-- so many flagged pixels are there as the marked cells hold
counts : (Flagged : ℕ → ℕ → Type 0) (setup : Setup) (edges : Edges) (marks : List Bool) (x y : ℤ) → AreSides setup edges
    → MarksTell Flagged setup edges marks → CountsFlagged Flagged setup x y (flagged_area edges.xs edges.ys marks x y)
counts Flagged setup edges marks x y sides tells = record {
  marks = held edges marks x y;
  exact = λ column row within below. (
    λ is. let parts = held-parts edges marks x y column row is in (parts.0, (tells column row within below).0 parts.1),
    λ both. held-from edges marks x y column row both.0 ((tells column row within below).1 both.1),
  );
  counted = held-area setup edges marks x y sides;
}

at_most : (Flagged : ℕ → ℕ → Type 0) (setup : Setup) (edges : Edges) (marks : List Bool) (x y : ℤ) (others : ℕ → ℕ → Bool) → AreSides setup edges
    → MarksTell Flagged setup edges marks
    → ((column row : ℕ) → column < setup.width → row < setup.height → IsTrue (others column row) → IsInRectangle x y column row × Flagged column row)
    → area setup.width setup.height others ≤ flagged_area edges.xs edges.ys marks x y
at_most Flagged setup edges marks x y others sides tells each =
    let le = area-le setup.width setup.height others (held edges marks x y) (λ column row within below is.
    let parts = each column row within below is in
    held-from edges marks x y column row parts.0 ((tells column row within below).1 parts.1)) in
    omega (arith, le, held-area setup edges marks x y sides)

pub count-is : (Flagged : ℕ → ℕ → Type 0) (setup : Setup) (edges : Edges) (marks : List Bool) (x y : ℤ) (count : ℕ) → AreSides setup edges
    → MarksTell Flagged setup edges marks → CountsFlagged Flagged setup x y count → count ≡ flagged_area edges.xs edges.ys marks x y
count-is Flagged setup edges marks x y count sides tells is =
    let low = at_most Flagged setup edges marks x y is.marks sides tells (λ column row within below marked. (is.exact column row within below).0 marked) in
    let high = area-le setup.width setup.height (held edges marks x y) is.marks (λ column row within below marked.
    let parts = held-parts edges marks x y column row marked in
    (is.exact column row within below).1 (parts.0, (tells column row within below).0 parts.1)) in
    omega (arith, low, high, held-area setup edges marks x y sides, is.counted)

pub first-most : (Flagged : ℕ → ℕ → Type 0) (setup : Setup) (edges : Edges) (marks : List Bool) (most : ℕ) (x y : ℤ) → AreSides setup edges
    → MarksTell Flagged setup edges marks → IsBest edges marks most x y → IsFirstMost Flagged setup x y
first-most Flagged setup edges marks most x y sides tells best = record {
  most = most;
  right = best.right;
  down = best.down;
  has = subst (CountsFlagged Flagged setup x y) best.has (counts Flagged setup edges marks x y sides tells);
  greatest = λ other_x other_y count is.
      omega (arith, count-is Flagged setup edges marks other_x other_y count sides tells is, best.most_of other_x other_y);
  first_row = λ other_x other_y right down is.
      best.first_row other_x other_y right down (sym (count-is Flagged setup edges marks other_x other_y most sides tells is));
  first_column = λ other_x right is.
      best.first_column other_x right (sym (count-is Flagged setup edges marks other_x y most sides tells is));
}

-- more than a quarter, and at most a quarter
pub many-flagged : (Flagged : ℕ → ℕ → Type 0) (setup : Setup) (edges : Edges) (marks : List Bool) (x y : ℤ) → AreSides setup edges
    → MarksTell Flagged setup edges marks → 21824 < flagged_area edges.xs edges.ys marks x y → HasManyFlagged Flagged setup x y
many-flagged Flagged setup edges marks x y sides tells many =
    many-carried (λ column row. IsTrue (is_flagged edges.xs edges.ys marks column row)) Flagged setup x y
    (λ column row within below is. (tells column row within below).0 is)
    record {
      marks = held edges marks x y;
      flagged = λ column row is. (held-parts edges marks x y column row is).1;
      inside = λ column row is. (held-parts edges marks x y column row is).0;
      many = omega (arith, many, held-area setup edges marks x y sides);
    }

pub few-flagged : (Flagged : ℕ → ℕ → Type 0) (setup : Setup) (edges : Edges) (marks : List Bool) (x y : ℤ) → AreSides setup edges
    → MarksTell Flagged setup edges marks → flagged_area edges.xs edges.ys marks x y ≤ 21824 → HasManyFlagged Flagged setup x y → ⊥
few-flagged Flagged setup edges marks x y sides tells few has =
    let le = at_most Flagged setup edges marks x y has.marks sides tells
    (λ column row within below is. (has.inside column row is, has.flagged column row is)) in
    omega (arith, le, few, has.many)
