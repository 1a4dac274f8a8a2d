-- Bounds of products.
use Rattle.std.proofs.Common.{ℕ, ℤ, pos, neg_ℤ, ◌≤◌, ◌*ℤ◌, ◌≤ℤ◌, ◌≡◌, arith}
use Rattle.std.proofs.lemmas.Int.{ints}
use Rattle.std.proofs.Math.IntN.{*ℤ_comm}
use Rattle.fix_span.specs.IntLaws.{times_le}
use Rattle.page_model.specs.ValidScene.{IsBetween}

-- up to 240,000,000 ticks, 100,000 times either way
pub IsBetween-times : (n : ℕ) (z : ℤ) → n ≤ 240000000 → IsBetween (neg_ℤ (pos 100000)) (pos 100000) z
    → IsBetween (neg_ℤ (pos 24000000000000)) (pos 24000000000000) (pos n *ℤ z)
IsBetween-times n z few range =
    let turned : pos n *ℤ z ≡ z *ℤ pos n = *ℤ_comm (pos n) z in
    let least : (neg_ℤ (pos 100000) *ℤ pos n) ≤ℤ (z *ℤ pos n) = times_le (neg_ℤ (pos 100000)) z n range.at_least in
    let most : (z *ℤ pos n) ≤ℤ (pos 100000 *ℤ pos n) = times_le z (pos 100000) n range.at_most in
    record { at_least = omega (arith, ints, turned, least); at_most = omega (arith, ints, turned, most) }
