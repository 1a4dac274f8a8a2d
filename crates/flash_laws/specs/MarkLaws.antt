-- Laws of counting marked pixels.
use Rattle.std.specs.Prelude.{ℕ, ℤ, Bool, ◌≡◌, ◌+◌, ◌*◌, ◌<◌, ◌≤◌, ◌&&◌, ◌||◌, nat_le, nat_lt, IsTrue}
use Rattle.page_model.specs.Flash.{IsInRectangle}

-- marks of pixels, and a way to count those of a viewport
abbrev pub Marks : Type 0
Marks = ℕ → ℕ → Bool

abbrev pub Counting : Type 0
Counting = ℕ → ℕ → Marks → ℕ

-- either of two markings
abbrev pub either : Marks → Marks → Marks
either one other column row = one column row || other column row

-- the pixels of a rectangle, from a column and a row on
abbrev pub in_part : ℕ → ℕ → ℕ → ℕ → Marks
in_part x y width height column row =
    nat_le x column && (nat_lt column (x + width) && (nat_le y row && nat_lt row (y + height)))

-- they count at most the viewport
abbrev pub CountsAtMostAll : Counting → Type 0
CountsAtMostAll count = (width height : ℕ) (marks : Marks) → count width height marks ≤ width * height

-- who marks more in the viewport counts at least as much
abbrev pub CountsMoreForMore : Counting → Type 0
CountsMoreForMore count =
    (width height : ℕ) (marks more : Marks)
    → ((column row : ℕ) → column < width → row < height → IsTrue (marks column row) → IsTrue (more column row))
    → count width height marks ≤ count width height more

-- markings that are apart in the viewport add up
abbrev pub CountsAddUp : Counting → Type 0
CountsAddUp count =
    (width height : ℕ) (one other : Marks)
    → ((column row : ℕ) → column < width → row < height → IsTrue (one column row) → IsTrue (other column row) → ⊥)
    → count width height (either one other) ≡ count width height one + count width height other

-- a rectangle in the viewport counts its size
abbrev pub CountsRectangles : Counting → Type 0
CountsRectangles count =
    (width height x y across down : ℕ) → x + across ≤ width → y + down ≤ height
    → count width height (in_part x y across down) ≡ across * down

-- marks in the 341 by 256 rectangle at a position count at most its size
abbrev pub CountsAtMostRectangle : Counting → Type 0
CountsAtMostRectangle count =
    (width height : ℕ) (marks : Marks) (x y : ℤ)
    → ((column row : ℕ) → IsTrue (marks column row) → IsInRectangle x y column row)
    → count width height marks ≤ 341 * 256

pub record MarksCount (count : Counting) : Type 0 where
  pub at_most_all : CountsAtMostAll count
  pub more_for_more : CountsMoreForMore count
  pub add_up : CountsAddUp count
  pub rectangles : CountsRectangles count
  pub at_most_rectangle : CountsAtMostRectangle count
