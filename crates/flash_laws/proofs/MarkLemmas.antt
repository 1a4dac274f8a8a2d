-- Proofs of the laws of counting marked pixels.
use Rattle.std.proofs.Common.{ℕ, Bool, true, false, cond, ◌≡◌, ◌+◌, ◌*◌, ◌<◌, ◌≤◌, refl, arith}
use Rattle.std.specs.Prelude.{ℤ, pos, negsuc, ◌≤ℤ◌, ◌+ℤ◌, nat_lt, nat_le, ◌&&◌, ◌||◌, IsTrue}
use Rattle.std.proofs.lemmas.Bool.{and_parts, leb-true, ltb-true, lt-ltb, le-leb}
use Rattle.std.proofs.lemmas.Int.{ints}
use Rattle.page_model.specs.Flash.{sum_below, area, IsInRectangle}
use Rattle.flash_laws.specs.MarkLaws.{Marks, either, in_part, CountsAtMostAll, CountsMoreForMore, CountsAddUp, CountsRectangles, CountsAtMostRectangle, MarksCount}
use Rattle.flash_laws.specs.WrongAreas.{area_twice, AreaTwiceBreaks}
use Rattle.flash_laws.proofs.SumLemmas.{sum-le, sum-bounded, sum-none, sum-add, sum-longer, sum-interval}

-- what a pixel counts, and a column
abbrev pub one_if : Bool → ℕ
one_if b = cond b 1 0

abbrev pub in_column : ℕ → Marks → ℕ → ℕ
in_column height marks column = sum_below height (λ row. one_if (marks column row))

pub one_if-at_most : (b : Bool) → one_if b ≤ 1
one_if-at_most true = omega arith
one_if-at_most false = omega arith

pub one_if-le : (a b : Bool) → (IsTrue a → IsTrue b) → one_if a ≤ one_if b
one_if-le true b more = rw (more refl) (omega arith)
one_if-le false b more = omega arith

pub one_if-none : (b : Bool) → (IsTrue b → ⊥) → one_if b ≡ 0
one_if-none true never = absurd (never refl)
one_if-none false never = refl

one_if-or : (a b : Bool) → (IsTrue a → IsTrue b → ⊥) → one_if (a || b) ≡ one_if a + one_if b
one_if-or true true apart = absurd (apart refl refl)
one_if-or true false apart = refl
one_if-or false b apart = omega arith

pub area-at_most : CountsAtMostAll area
area-at_most width height marks =
    sum-bounded width height (in_column height marks)
    (λ column within. let h = sum-bounded height 1 (λ row. one_if (marks column row)) (λ row below. one_if-at_most (marks column row)) in omega (arith, h))

pub area-le : CountsMoreForMore area
area-le width height marks more implied =
    sum-le width (in_column height marks) (in_column height more)
    (λ column within. sum-le height (λ row. one_if (marks column row)) (λ row. one_if (more column row))
    (λ row below. one_if-le (marks column row) (more column row) (implied column row within below)))

pub area-add : CountsAddUp area
area-add width height one other apart =
    sum-add width (in_column height (either one other)) (in_column height one) (in_column height other)
    (λ column within. sum-add height (λ row. one_if (either one other column row)) (λ row. one_if (one column row)) (λ row. one_if (other column row))
    (λ row below. one_if-or (one column row) (other column row) (apart column row within below)))

-- a larger viewport counts no less
pub area-wider : (width height wider higher : ℕ) (marks : Marks) → width ≤ wider → height ≤ higher
    → area width height marks ≤ area wider higher marks
area-wider width height wider higher marks more_columns more_rows =
    let columns = sum-longer width wider (in_column height marks) more_columns in
    let rows = sum-le wider (in_column height marks) (in_column higher marks)
    (λ column within. sum-longer height higher (λ row. one_if (marks column row)) more_rows) in
    omega (arith, columns, rows)

-- the pixels of a rectangle, one by one
part-inside : (x y across down column row : ℕ) → x ≤ column → column < x + across → y ≤ row → row < y + down
    → one_if (in_part x y across down column row) ≡ 1
part-inside x y across down column row left right above below =
    rw (le-leb x column left, lt-ltb column (x + across) right, le-leb y row above, lt-ltb row (y + down) below) refl

part-outside : (x y across down column row : ℕ) → (x ≤ column → column < x + across → y ≤ row → row < y + down → ⊥)
    → one_if (in_part x y across down column row) ≡ 0
part-outside x y across down column row never =
    one_if-none (in_part x y across down column row) (λ h.
    let first = and_parts (nat_le x column) (nat_lt column (x + across) && (nat_le y row && nat_lt row (y + down))) h in
    let second = and_parts (nat_lt column (x + across)) (nat_le y row && nat_lt row (y + down)) first.1 in
    let third = and_parts (nat_le y row) (nat_lt row (y + down)) second.1 in
    never (leb-true x column first.0) (ltb-true column (x + across) second.0) (leb-true y row third.0) (ltb-true row (y + down) third.1))

part-column : (height x y across down column : ℕ) → y + down ≤ height → x ≤ column → column < x + across
    → in_column height (in_part x y across down) column ≡ down
part-column height x y across down column fits left right =
    let h = sum-interval height y down 1 (λ row. one_if (in_part x y across down column row)) fits
    (λ row below above. part-inside x y across down column row left right above below)
    (λ row before. part-outside x y across down column row (λ p q r s. omega arith))
    (λ row after. part-outside x y across down column row (λ p q r s. omega arith)) in
    omega (arith, h)

no-part-column : (height x y across down column : ℕ) → (x ≤ column → column < x + across → ⊥)
    → in_column height (in_part x y across down) column ≡ 0
no-part-column height x y across down column never =
    sum-none height (λ row. one_if (in_part x y across down column row))
    (λ row below. part-outside x y across down column row (λ p q r s. never p q))

pub area-part : CountsRectangles area
area-part width height x y across down fits_width fits_height =
    sum-interval width x across down (in_column height (in_part x y across down)) fits_width
    (λ column right left. part-column height x y across down column fits_height left right)
    (λ column before. no-part-column height x y across down column (λ p q. omega arith))
    (λ column after. no-part-column height x y across down column (λ p q. omega arith))

-- the first place of an interval of whole numbers that a viewport shows
first_shown : ℤ → ℕ
first_shown (pos a) = a
first_shown (negsuc a) = 0

within_341 : (x : ℤ) (k : ℕ) → x ≤ℤ pos k → pos k ≤ℤ (x +ℤ pos 340) → (first_shown x ≤ k) × (k < first_shown x + 341)
unfolding first_shown
within_341 (pos a) k low high = (omega (arith, ints), omega (arith, ints))
within_341 (negsuc a) k low high = (omega (arith, ints), omega (arith, ints))

within_256 : (y : ℤ) (k : ℕ) → y ≤ℤ pos k → pos k ≤ℤ (y +ℤ pos 255) → (first_shown y ≤ k) × (k < first_shown y + 256)
unfolding first_shown
within_256 (pos a) k low high = (omega (arith, ints), omega (arith, ints))
within_256 (negsuc a) k low high = (omega (arith, ints), omega (arith, ints))

-- marks in a rectangle are among those of the part of the viewport that it shows, were the viewport large enough
pub area-rectangle : CountsAtMostRectangle area
area-rectangle width height marks x y inside =
    let a = first_shown x in
    let b = first_shown y in
    let wider = area-wider width height (width + (a + 341)) (height + (b + 256)) marks (omega arith) (omega arith) in
    let more = area-le (width + (a + 341)) (height + (b + 256)) marks (in_part a b 341 256)
    (λ column row _ _ marked. shown column row (inside column row marked)) in
    let whole = area-part (width + (a + 341)) (height + (b + 256)) a b 341 256 (omega arith) (omega arith) in
    omega (arith, wider, more, whole) where
      shown : (column row : ℕ) → IsInRectangle x y column row → IsTrue (in_part (first_shown x) (first_shown y) 341 256 column row)
      shown column row place =
          let across = within_341 x column place.right_of place.left_of in
          let down = within_256 y row place.below place.above in
          rw (le-leb (first_shown x) column across.0, lt-ltb column (first_shown x + 341) across.1, le-leb (first_shown y) row down.0, lt-ltb row (first_shown y + 256) down.1) refl

pub marks_count : MarksCount area
marks_count = record {
  at_most_all = area-at_most;
  more_for_more = area-le;
  add_up = area-add;
  rectangles = area-part;
  at_most_rectangle = area-rectangle;
}

-- a viewport of one marked pixel
pub area_twice_breaks : AreaTwiceBreaks
area_twice_breaks = record {
  at_most_all = λ law. let h : area_twice 1 1 (λ _ _. true) ≤ 1 * 1 = law 1 1 (λ _ _. true) in omega arith;
  rectangles = λ law. let h : area_twice 1 1 (in_part 0 0 1 1) ≡ 1 * 1 = law 1 1 0 0 1 1 (omega arith) (omega arith) in omega arith;
}
