-- By both ends of the place, which fit.
use Rattle.std.proofs.Common.{ℤ, pos, neg_ℤ, ◌≡◌, ◌+ℤ◌, ◌≤ℤ◌, arith, to_z, of_z}
use Rattle.std.proofs.lemmas.Int.{ints}
use mir.Syntax.{w32}
use Rattle.frame_state.specs.States.{loose_as}
use Rattle.region_parts.proofs.AreaLemmas.{reach}
use Rattle.region_parts.proofs.areas.reach_of.Goals as goal

cast-same : (a : ℤ) → neg_ℤ (pos 8192) ≤ℤ a → a ≤ℤ pos 8192 → to_z w32 (of_z w32 a) ≡ a
cast-same a low high = omega (arith, ints, low, high)

sum-same : (a b : ℤ) → neg_ℤ (pos 8192) ≤ℤ a → a ≤ℤ pos 8192 → pos 0 ≤ℤ b → b ≤ℤ pos 8192
    → to_z w32 (of_z w32 (to_z w32 (of_z w32 a) +ℤ to_z w32 (of_z w32 b))) ≡ a +ℤ b
sum-same a b low high least most = omega (arith, ints, low, high, least, most)

pub returns : goal.returns
returns c =
    let from = c.requires.from in
    let extent = c.requires.extent in
    let low : c.args.from.lo ≤ℤ pos 8192 = omega (arith, ints, from.in_order, from.at_most) in
    let high : neg_ℤ (pos 8192) ≤ℤ c.args.from.hi = omega (arith, ints, from.in_order, from.at_least) in
    let most : pos 0 ≤ℤ c.args.extent.hi = omega (arith, ints, extent.in_order, extent.at_least) in
    reach c.args.size (loose_as c.args.from) (loose_as c.args.extent) c.first_from.result c.first_from-2.result
    (rw (cast-same c.args.from.lo from.at_least low) at c.first_from.ensures)
    (rw (sum-same c.args.from.hi c.args.extent.hi high from.at_most most extent.at_most) at c.first_from-2.ensures)
