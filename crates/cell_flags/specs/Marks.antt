-- Where the rectangle holds the most flagged pixels: over any flags of the pixels of a viewport, and over marks of the cells that tell
-- these flags.
use Rattle.std.specs.Prelude.{ℕ, ℤ, pos, Bool, ◌≡◌, ◌↔◌, ◌<◌, ◌≤◌, ◌≤ℤ◌, IsTrue, List}
use Rattle.page_model.specs.declared.setup.Setup.{Setup}
use Rattle.page_model.specs.Flash.{IsInRectangle, area}
use Rattle.region_split.specs.Cutting.{Edges}
use Rattle.window_area.specs.FlaggedArea.{IsFirstColumn, IsFirstRow, flagged_area, is_flagged}

-- so many pixels of the viewport are flagged in the 341 by 256 rectangle at a position
pub record CountsFlagged (Flagged : ℕ → ℕ → Type 0) (setup : Setup) (x y : ℤ) (count : ℕ) : Type 0 where
  pub marks : ℕ → ℕ → Bool
  pub exact : (column row : ℕ) → column < setup.width → row < setup.height
      → (IsTrue (marks column row) ↔ (IsInRectangle x y column row × Flagged column row))
  pub counted : area setup.width setup.height marks ≡ count

-- no position has more of them than this one; it lies at 0 or behind both ways, and of such positions with as many it is the
-- first, by rows and then by columns
pub record IsFirstMost (Flagged : ℕ → ℕ → Type 0) (setup : Setup) (x y : ℤ) : Type 0 where
  pub most : ℕ
  pub right : pos 0 ≤ℤ x
  pub down : pos 0 ≤ℤ y
  pub has : CountsFlagged Flagged setup x y most
  pub greatest : (other_x other_y : ℤ) (count : ℕ) → CountsFlagged Flagged setup other_x other_y count → count ≤ most
  pub first_row : (other_x other_y : ℤ) → pos 0 ≤ℤ other_x → pos 0 ≤ℤ other_y → CountsFlagged Flagged setup other_x other_y most
      → y ≤ℤ other_y
  pub first_column : (other_x : ℤ) → pos 0 ≤ℤ other_x → CountsFlagged Flagged setup other_x y most → x ≤ℤ other_x

-- this is the most that the rectangle holds of marked cells, and where it does first
pub record IsBest (edges : Edges) (marks : List Bool) (most : ℕ) (x y : ℤ) : Type 0 where
  pub most_of : (other_x other_y : ℤ) → flagged_area edges.xs edges.ys marks other_x other_y ≤ most
  pub has : flagged_area edges.xs edges.ys marks x y ≡ most
  pub right : pos 0 ≤ℤ x
  pub down : pos 0 ≤ℤ y
  pub first_row : IsFirstRow edges.xs edges.ys marks most y
  pub first_column : IsFirstColumn edges.xs edges.ys marks most x y

-- cells are marked exactly where their pixels are flagged
abbrev pub MarksTell : (ℕ → ℕ → Type 0) → Setup → Edges → List Bool → Type 0
MarksTell Flagged setup edges marks =
    (column row : ℕ) → column < setup.width → row < setup.height
    → (IsTrue (is_flagged edges.xs edges.ys marks column row) ↔ Flagged column row)
