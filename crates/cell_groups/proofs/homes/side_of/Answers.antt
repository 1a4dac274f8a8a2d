-- Both ends fit.
use Rattle.std.proofs.Common.{ℤ, pos, neg_ℤ, ◌≡◌, ◌+ℤ◌, ◌≤ℤ◌, arith, to_z, of_z, refl}
use Rattle.std.proofs.lemmas.Int.{ints}
use mir.Syntax.{w32}
use Rattle.cell_groups.proofs.homes.side_of.Goals as goal

sum-fits : (a b : ℤ) → neg_ℤ (pos 8192) ≤ℤ a → a ≤ℤ pos 8192 → pos 0 ≤ℤ b → b ≤ℤ pos 8192
    → to_z w32 (of_z w32 (to_z w32 (of_z w32 a) +ℤ to_z w32 (of_z w32 b))) ≡ a +ℤ b
sum-fits a b low high least most = omega (arith, ints, low, high, least, most)

pub returns : goal.returns
returns c =
    let from = c.requires.from in
    let extent = c.requires.extent in
    let low : c.args.from.lo ≤ℤ pos 8192 = omega (arith, ints, from.in_order, from.at_most) in
    let high : neg_ℤ (pos 8192) ≤ℤ c.args.from.hi = omega (arith, ints, from.in_order, from.at_least) in
    let least : c.args.extent.lo ≤ℤ pos 8192 = omega (arith, ints, extent.in_order, extent.at_most) in
    let most : pos 0 ≤ℤ c.args.extent.hi = omega (arith, ints, extent.in_order, extent.at_least) in
    record {
      begin = refl;
      end = λ i. record {
        lo = sum-fits c.args.from.lo c.args.extent.lo from.at_least low extent.at_least least i;
        hi = sum-fits c.args.from.hi c.args.extent.hi high from.at_most most extent.at_most i;
      };
    }
