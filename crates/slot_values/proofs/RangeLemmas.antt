-- Numbers that are held in ranges, as the code computes them.
use Rattle.std.proofs.Common.{ℕ, ℤ, pos, ◌≡◌, ◌*◌, ◌^◌, ◌<◌, ◌≤◌, ◌*ℤ◌, nat_abs, arith, ap, sym}
use Rattle.std.proofs.Math.Nat.{mul-le-mul}
use Rattle.fix_span.specs.declared.frac.Frac.{Frac}
use Rattle.slot_values.specs.Ends.{IsEnd}
use Rattle.slot_values.proofs.MixLemmas.{den-few, den-is, den-positive}

-- a unit times an end's denominator
pub parts-are : (unit : ℕ) (x : Frac) → IsEnd x → pos unit *ℤ x.den ≡ pos (unit * nat_abs x.den)
parts-are unit x end = ap (λ (d : ℤ). pos unit *ℤ d) (sym (den-is x end))

pub record ArePositive (n : ℕ) : Type 0 where
  pub some : 0 < n
  pub few : n ≤ 2 ^ 32 * 2 ^ 48

pub parts-positive : (unit : ℕ) (x : Frac) → 0 < unit → unit < 2 ^ 32 → IsEnd x → ArePositive (unit * nat_abs x.den)
parts-positive unit x some small end =
    let first = den-positive x end in
    let low : 1 * 1 ≤ unit * nat_abs x.den = mul-le-mul some first in
    let below : unit ≤ 2 ^ 32 = omega arith in
    let high : unit * nat_abs x.den ≤ 2 ^ 32 * 2 ^ 48 = mul-le-mul below (den-few x end) in
    record { some = omega (arith, low); few = high }
