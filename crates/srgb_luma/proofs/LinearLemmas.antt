-- The linear light of a channel: how to show its value, and that it is at most 2^32.
use Rattle.std.proofs.Common.{◌≡◌, ℕ, suc, ◌*◌, ◌/◌, ◌^◌, ◌<◌, ◌≤◌, true, false, arith, inl, inr}
use Rattle.std.proofs.lemmas.Bool.{cases_lt, le-leb, lt-leb}
use Rattle.page_model.specs.Least.{greatest_up_to}
use Rattle.page_model.specs.Light.{is_below_curve, linear_of}
use Rattle.srgb_luma.proofs.GreatestLemmas.{greatest_up_to_le, greatest_up_to-edge}
use Rattle.srgb_luma.proofs.CurveLemmas.{is_below_curve-antitone}

-- up to 10 it is in proportion to the channel
pub linear_of-low : (c : ℕ) → c ≤ 10 → linear_of c ≡ c * 5 * 2 ^ 32 / 16473
unfolding linear_of
linear_of-low c low = rw (le-leb c 10 low)

-- above 10 it is the greatest number below the curve
pub linear_of-high : (c : ℕ) → 10 < c → linear_of c ≡ greatest_up_to (2 ^ 32) (is_below_curve c)
unfolding linear_of
linear_of-high c high = rw (lt-leb c 10 high)

-- above 10 it is the number that is below the curve where the next one is not; at numerals `refl` is both tests
pub linear_of-edge :
    (c n : ℕ) → 10 < c → n ≤ 2 ^ 32 → is_below_curve c n ≡ true → is_below_curve c (suc n) ≡ false
    → linear_of c ≡ n
linear_of-edge c n high within passes fails =
    rw (linear_of-high c high)
    (greatest_up_to-edge (2 ^ 32) n (is_below_curve c) (is_below_curve-antitone c) within passes fails)

-- it is at most 2^32, at any channel
pub linear_of_le : (c : ℕ) → linear_of c ≤ 2 ^ 32
linear_of_le c =
    elim (cases_lt 10 c) [
      | inl high ↦ rw (linear_of-high c high) (greatest_up_to_le (2 ^ 32) (is_below_curve c))
      | inr low ↦ rw (linear_of-low c low) (omega arith)
    ]
