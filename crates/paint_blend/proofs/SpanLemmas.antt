-- How surely a box spans a column, told by orders.
use Rattle.std.proofs.Common.{◌≡◌, ℕ, refl, true, false, arith}
use Rattle.std.specs.Prelude.{ℤ, pos, ◌+ℤ◌, ◌≤ℤ◌, ◌<ℤ◌, int_lt, int_le}
use Rattle.std.proofs.lemmas.Int.{ints}
use Rattle.page_model.specs.Enclosure.{Loose, surely, surely_not, maybe}
use Rattle.page_model.specs.TintOf.{spans_surely}

pub below-true : (a b : ℤ) → a <ℤ b → int_lt a b ≡ true
below-true a b h = grind (arith, ints)

pub below-false : (a b : ℤ) → b ≤ℤ a → int_lt a b ≡ false
below-false a b h = grind (arith, ints)

pub at_most-true : (a b : ℤ) → a ≤ℤ b → int_le a b ≡ true
at_most-true a b h = grind (arith, ints)

pub at_most-false : (a b : ℤ) → b <ℤ a → int_le a b ≡ false
at_most-false a b h = grind (arith, ints)

pub spans-past : (from size : Loose) (at : ℕ) → from.lo ≤ℤ pos at → (from.hi +ℤ size.hi) ≤ℤ pos at → surely_not ≡ spans_surely from size at
spans-past from size at after past =
    rw (below-false (pos at) from.lo after, at_most-true (from.hi +ℤ size.hi) (pos at) past) refl

pub spans-inside : (from size : Loose) (at : ℕ) → from.lo ≤ℤ pos at → pos at <ℤ (from.hi +ℤ size.hi) → from.hi ≤ℤ pos at → pos at <ℤ (from.lo +ℤ size.lo)
    → surely ≡ spans_surely from size at
spans-inside from size at after before reached within =
    rw (below-false (pos at) from.lo after, at_most-false (from.hi +ℤ size.hi) (pos at) before, at_most-true from.hi (pos at) reached, below-true (pos at) (from.lo +ℤ size.lo) within) refl

pub spans-late : (from size : Loose) (at : ℕ) → from.lo ≤ℤ pos at → pos at <ℤ (from.hi +ℤ size.hi) → from.hi ≤ℤ pos at → (from.lo +ℤ size.lo) ≤ℤ pos at
    → maybe ≡ spans_surely from size at
spans-late from size at after before reached late =
    rw (below-false (pos at) from.lo after, at_most-false (from.hi +ℤ size.hi) (pos at) before, at_most-true from.hi (pos at) reached, below-false (pos at) (from.lo +ℤ size.lo) late) refl

pub spans-early : (from size : Loose) (at : ℕ) → from.lo ≤ℤ pos at → pos at <ℤ (from.hi +ℤ size.hi) → pos at <ℤ from.hi → maybe ≡ spans_surely from size at
spans-early from size at after before early =
    rw (below-false (pos at) from.lo after, at_most-false (from.hi +ℤ size.hi) (pos at) before, at_most-false from.hi (pos at) early) refl
