-- The test against the curve: it is antitone in the number, and passes more for a higher channel.
use Rattle.std.proofs.Common.{◌≡◌, ℕ, ◌+◌, ◌*◌, ◌^◌, ◌≤◌, true, arith}
use Rattle.std.specs.Prelude.{nat_le}
use Rattle.std.proofs.lemmas.Bool.{leb-true, le-leb}
use Rattle.std.proofs.Math.Nat.{pow-le-pow_left, mul-le-mul_right}
use Rattle.page_model.specs.Light.{is_below_curve}
use Rattle.srgb_luma.proofs.GreatestLemmas.{IsAntitone}

-- a product at most another stays so where the left grows smaller
smaller_left : (m n k r : ℕ) → m ≤ n → nat_le (n ^ 5 * k) r ≡ true → nat_le (m ^ 5 * k) r ≡ true
smaller_left m n k r below h =
    let p = mul-le-mul_right k (pow-le-pow_left below 5) in
    let q = leb-true (n ^ 5 * k) r h in
    le-leb (m ^ 5 * k) r (omega arith)

-- and where the right grows larger
larger_right : (a b p s : ℕ) → a ≤ b → nat_le p (a ^ 12 * s) ≡ true → nat_le p (b ^ 12 * s) ≡ true
larger_right a b p s above h =
    let e = mul-le-mul_right s (pow-le-pow_left above 12) in
    let q = leb-true p (a ^ 12 * s) h in
    le-leb p (b ^ 12 * s) (omega arith)

-- below a number that is below the curve each one is
pub is_below_curve-antitone : (c : ℕ) → IsAntitone (is_below_curve c)
is_below_curve-antitone c m n below h = smaller_left m n (10761 ^ 12) ((40 * c + 561) ^ 12 * 2 ^ 160) below h

-- a number below the curve at a channel is so at a higher one
pub is_below_curve-channel : (c d n : ℕ) → c ≤ d → is_below_curve c n ≡ true → is_below_curve d n ≡ true
is_below_curve-channel c d n above h =
    larger_right (40 * c + 561) (40 * d + 561) (n ^ 5 * 10761 ^ 12) (2 ^ 160) (omega arith) h
