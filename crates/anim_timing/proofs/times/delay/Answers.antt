-- The product is in its range, and so it fits.
use Rattle.std.proofs.Common.{ℤ, ℕ, pos, neg_ℤ, ◌≡◌, ◌*ℤ◌, FitsSigned, to_z, w32, w64, arith}
use Rattle.std.proofs.lemmas.Int.{ints, to_z-of_z}
use Rattle.page_model.specs.ValidScene.{IsBetween}
use Rattle.anim_timing.proofs.BoundLemmas.{IsBetween-times}
use Rattle.anim_timing.proofs.times.delay.Goals as goal

pub returns-clause-range : goal.returns-clause-range
returns-clause-range c =
    let n : ℕ = c.ticks.result in
    let d : ℤ = c.args.anim.now.delay in
    let range : IsBetween (neg_ℤ (pos 24000000000000)) (pos 24000000000000) (pos n *ℤ d) = IsBetween-times n d (omega arith) c.requires.delay in
    let small : FitsSigned w32 d = omega (arith, ints, c.requires.delay) in
    let wide : FitsSigned w64 d = omega (arith, ints, c.requires.delay) in
    let fits : FitsSigned w64 (pos n *ℤ d) = omega (arith, ints, range) in
    let natural : to_z w64 n ≡ pos n = omega (arith, ints) in
    rw (natural, to_z-of_z w32 d small, to_z-of_z w64 d wide, to_z-of_z w64 (pos n *ℤ d) fits) range
