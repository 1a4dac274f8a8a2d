-- A number with its sign is in its limits.
use Rattle.std.proofs.Common.{ℕ, pos, neg_ℤ, Bool, true, false, ◌≡◌, ◌≤◌, arith}
use Rattle.std.proofs.lemmas.Int.{ints}
use Rattle.page_model.specs.ValidScene.{IsBetween}
use Rattle.css_words.specs.Numerals.{signed_int}

-- a number is at most its limit, and 0 where it has a sign that it may not have
pub record Held (signed negative : Bool) (limit n : ℕ) : Type 0 where
  pub small : n ≤ limit
  pub sign : signed ≡ false → negative ≡ true → n ≡ 0

pub between : (signed negative : Bool) (limit n : ℕ) → Held signed negative limit n → IsBetween (neg_ℤ (pos limit)) (pos limit) (signed_int negative n)
between signed true limit n is = let small = is.small in record { at_least = omega (arith, ints); at_most = omega (arith, ints) }
between signed false limit n is = let small = is.small in record { at_least = omega (arith, ints); at_most = omega (arith, ints) }
